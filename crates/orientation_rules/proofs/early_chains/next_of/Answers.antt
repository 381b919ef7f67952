use Rattle.std.proofs.Common.{◌*◌}
use Rattle.edge_state.specs.BitRows.{row_has}
use Rattle.edge_state.proofs.RowBits.{members_fewer}
use Rattle.orientation_rules.proofs.early_chains.next_of.Goals as goal

pub loop-y-smaller : goal.loop-y-smaller
loop-y-smaller g c =
    members_fewer (row_has c.loop-y.row) (row_has c.without-row.result) c.in-Some.y (64 * g.row.K)
    c.without-row.ensures c.in-Some.ensures.least.there c.in-Some.ensures.limit
