use Rattle.tree_terms.proofs.laws.class_tree_is_a_search.Goals as goal
use Rattle.tree_terms.proofs.Decisions.{class_tree_search, class_tree_right}

pub returns-clause-search : goal.returns-clause-search
returns-clause-search c instance start scales limits placed = class_tree_search instance limits start placed scales

pub returns-clause-outcome : goal.returns-clause-outcome
returns-clause-outcome c instance start scales limits placed = class_tree_right instance limits start placed scales
