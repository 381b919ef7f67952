use Rattle.tree_terms.proofs.laws.joining_verdicts.Goals as goal
use Rattle.tree_terms.proofs.Joins.{join_assoc, join_nothing, nothing_join, split_joins}

pub returns-clause-associative : goal.returns-clause-associative
returns-clause-associative c = join_assoc

pub returns-clause-left_unit : goal.returns-clause-left_unit
returns-clause-left_unit c = nothing_join

pub returns-clause-right_unit : goal.returns-clause-right_unit
returns-clause-right_unit c = join_nothing

pub returns-clause-split : goal.returns-clause-split
returns-clause-split c = split_joins
