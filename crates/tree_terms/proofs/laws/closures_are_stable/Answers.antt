use Rattle.tree_terms.proofs.laws.closures_are_stable.Goals as goal
use Rattle.packing_terms.proofs.RoundsLemmas.{closure_stable}
use Rattle.tree_terms.proofs.Closed.{follows_derived}

pub returns-clause-stable : goal.returns-clause-stable
returns-clause-stable c = closure_stable

pub returns-clause-table : goal.returns-clause-table
returns-clause-table c = follows_derived
