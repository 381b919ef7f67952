use Rattle.std.proofs.Common.{arith}
use Rattle.packing_terms.specs.Packing.{box_count}
use Rattle.packing_terms.proofs.Boxes.{boxes_few}
use Rattle.refutation_steps.proofs.chain_steps.write_chain.Goals as goal

pub overflow_cast-step : goal.overflow_cast-step
overflow_cast-step c =
    let l = boxes_few (box_count c.args.instance.now) c.args.before.now c.requires.before in
    let m = c.len-count.ensures.limits.boxes.count.1 in
    omega (arith, l, m)

pub overflow_cast-step-2 : goal.overflow_cast-step-2
overflow_cast-step-2 c =
    let l = boxes_few (box_count c.args.instance.now) c.args.after.now c.requires.after in
    let m = c.len-count.ensures.limits.boxes.count.1 in
    omega (arith, l, m)
