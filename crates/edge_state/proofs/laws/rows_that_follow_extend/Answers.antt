use Rattle.edge_state.proofs.RowDerived.{row_extends}
use Rattle.edge_state.proofs.laws.rows_that_follow_extend.Goals as goal

pub returns : goal.returns
returns c instance es i u rel row n each = row_extends instance es i u rel row n each
