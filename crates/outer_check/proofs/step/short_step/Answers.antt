use Rattle.std.proofs.Common.{arith}
use Rattle.outer_check.proofs.ValueSteps.{short_refused, short_closed}
use Rattle.outer_check.proofs.step.short_step.Goals as goal

pub returns-then-most-value : goal.returns-then-most-value
returns-then-most-value c =
    short_refused c.args.instance.now c.args.value c.args.path.now c.requires.boxes c.boxes-boxes.ensures.path
    c.requires.are c.taken_worth.result c.undecided_worth.result
    c.taken_worth.ensures.value c.undecided_worth.ensures.value (let t = c.if-most-value.true in omega (arith, t))

pub returns : goal.returns
returns c =
    short_closed c.args.instance.now c.args.value c.args.path.now c.requires.boxes c.boxes-boxes.ensures.path
    c.requires.are c.taken_worth.result c.undecided_worth.result
    c.taken_worth.ensures.value c.undecided_worth.ensures.value (let f = c.if-most-value.false in omega (arith, f))
