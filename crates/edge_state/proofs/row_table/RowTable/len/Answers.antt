use Rattle.std.proofs.Common.{arith}
use Rattle.edge_state.proofs.Paired.{length_paired}
use Rattle.edge_state.proofs.row_table.RowTable.len.Goals as goal

pub returns : goal.returns
returns c = let n = length_paired c.self.inside.first.items c.self.inside.second.items in
    rw (← c.self.view_is) (omega (arith, n, c.len.ensures, c.self.inside.first.ok.0))
