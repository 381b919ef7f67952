use Rattle.box_instances.proofs.Rows.{bound_next}
use Rattle.box_instances.proofs.working.longest_sides.Goals as goal

pub loop-v-preserved : goal.loop-v-preserved
loop-v-preserved c =
    bound_next c.args.rows.now c.loop-v.longest c.greater_sides-longest.result c.loop-v.v c.greater_sides-longest.ensures.first
    c.greater_sides-longest.ensures.second c.loop-v.invariant
