use Rattle.std.proofs.Common.{arith}
use Rattle.refutation_steps.proofs.Chaining.{box_at}
use Rattle.refutation_steps.proofs.chain_steps.write_boxes.Goals as goal

pub overflow_add-v : goal.overflow_add-v
overflow_add-v c =
    let l = box_at c.args.instance.now c.args.boxes.now c.loop-v.v-index c.requires c.loop-v-test.true in
    let m = c.len-count.ensures.limits.boxes.count.1 in
    omega (arith, l, m)
