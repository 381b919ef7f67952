use Rattle.tree_terms.proofs.Reached.{told_split, past_own, root_reached, reached_next}
use Rattle.tree_terms.proofs.laws.nodes_show_their_children.Goals as goal

pub returns-clause-split : goal.returns-clause-split
returns-clause-split c = told_split

pub returns-clause-past : goal.returns-clause-past
returns-clause-past c = past_own

pub returns-clause-root : goal.returns-clause-root
returns-clause-root c = root_reached

pub returns-clause-next : goal.returns-clause-next
returns-clause-next c = reached_next
