use Rattle.tree_terms.proofs.laws.outer_trees_are_searches.Goals as goal
use Rattle.tree_terms.proofs.OuterDecisions.{bin_tree_search, bin_tree_right, choice_tree_search, choice_tree_right}

pub returns-clause-bins : goal.returns-clause-bins
returns-clause-bins c instance k scales limits = bin_tree_search instance limits k scales

pub returns-clause-bins_outcome : goal.returns-clause-bins_outcome
returns-clause-bins_outcome c instance k scales limits = bin_tree_right instance limits k scales

pub returns-clause-value : goal.returns-clause-value
returns-clause-value c instance goal scales limits = choice_tree_search instance limits goal scales

pub returns-clause-value_outcome : goal.returns-clause-value_outcome
returns-clause-value_outcome c instance goal scales limits = choice_tree_right instance limits goal scales
