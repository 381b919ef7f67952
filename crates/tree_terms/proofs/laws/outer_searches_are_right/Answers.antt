use Rattle.tree_terms.proofs.OuterOutcomes.{bins_right, value_right}
use Rattle.tree_terms.proofs.PathNodes.{bin_search_at, choice_search_at}
use Rattle.tree_terms.proofs.laws.outer_searches_are_right.Goals as goal

pub returns-clause-bins : goal.returns-clause-bins
returns-clause-bins c instance k bins tree node path s e = bin_search_at instance k path tree bins s node e

pub returns-clause-bins_outcome : goal.returns-clause-bins_outcome
returns-clause-bins_outcome c instance k bins tree s = bins_right instance k tree bins s

pub returns-clause-value : goal.returns-clause-value
returns-clause-value c instance goal c' tree node path s e = choice_search_at instance goal path tree c' s node e

pub returns-clause-value_outcome : goal.returns-clause-value_outcome
returns-clause-value_outcome c instance goal c' tree s = value_right instance goal tree c' s
