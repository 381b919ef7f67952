use Rattle.edge_state.proofs.RowExclusions.{row_none, row_next, row_grown, row_exactly}
use Rattle.edge_state.proofs.laws.rows_are_members.Goals as goal

pub returns-clause-none : goal.returns-clause-none
returns-clause-none c es i u rel row n h = row_none i u rel es row n h

pub returns-clause-next : goal.returns-clause-next
returns-clause-next c es i u v rel row rest n l h least e = row_next i u rel es row rest v n l h least e

pub returns-clause-grown : goal.returns-clause-grown
returns-clause-grown c es i u rel row n = row_grown i u rel es row n

pub returns-clause-exact : goal.returns-clause-exact
returns-clause-exact c es i u rel row n j a b r = row_exactly i u rel es row n j a b r
