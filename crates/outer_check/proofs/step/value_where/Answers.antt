use Rattle.std.proofs.Common.{arith}
use Rattle.outer_check.proofs.step.value_where.Goals as goal

pub returns-then-test-clause-limit : goal.returns-then-test-clause-limit
returns-then-test-clause-limit c =
    let small = (c.len-count.ensures.limits.boxes.each c.args.v c.requires).value in
    let same = c.value-value.ensures in
    omega (arith, small, same)

pub returns-then-test-clause-boxes : goal.returns-then-test-clause-boxes
returns-then-test-clause-boxes c = c.len-count.ensures.limits.boxes.count.1

pub returns-else-test-clause-boxes : goal.returns-else-test-clause-boxes
returns-else-test-clause-boxes c = c.len-count.ensures.limits.boxes.count.1
