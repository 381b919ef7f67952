use Rattle.tree_terms.proofs.Searches.{outcome_right}
use Rattle.tree_terms.proofs.PathNodes.{search_at}
use Rattle.tree_terms.proofs.laws.searches_are_right.Goals as goal

pub returns-clause-nodes : goal.returns-clause-nodes
returns-clause-nodes c instance es tree node path s e = search_at instance path tree es s node e

pub returns-clause-outcome : goal.returns-clause-outcome
returns-clause-outcome c instance es tree = outcome_right instance tree es
