use Rattle.std.proofs.Common.{◌<◌, ◌^◌, rules, slice_index}
use Rattle.edge_state.proofs.Joined.{joined_start, joined_next}
use Rattle.edge_state.proofs.bit_row.BitRow.is_empty.Goals as goal

pub loop-i-init : goal.loop-i-init
loop-i-init g c = joined_start c.self.inside.words

pub loop-i-preserved : goal.loop-i-preserved
loop-i-preserved g c =
    let fits : slice_index c.self.inside.words c.loop-i.i < 2 ^ 64 = search rules in
    joined_next c.loop-i.all c.self.inside.words c.loop-i.i c.loop-i.invariant fits
