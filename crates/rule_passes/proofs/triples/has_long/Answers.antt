use Rattle.std.proofs.Common.{◌*◌}
use Rattle.edge_state.specs.BitRows.{row_has}
use Rattle.edge_state.proofs.RowBits.{members_fewer}
use Rattle.rule_passes.proofs.triples.has_long.Goals as goal

pub loop-v-smaller : goal.loop-v-smaller
loop-v-smaller g c =
    members_fewer (row_has c.loop-v.rest) (row_has c.without-rest.result) c.in-Some.v (64 * g.row.K)
    c.without-rest.ensures c.in-Some.ensures.least.there c.in-Some.ensures.limit
