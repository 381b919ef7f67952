use Rattle.outer_check.proofs.BinSteps.{bin_refused, bin_begun}
use Rattle.outer_check.proofs.step.bin_step.Goals as goal

pub returns-then-not-bin-used : goal.returns-then-not-bin-used
returns-then-not-bin-used c =
    bin_refused c.args.instance.now c.args.bins c.args.path.now c.requires.boxes c.boxes-boxes.ensures.path
    c.requires.are c.args.bin c.used.result c.used.ensures c.if-not-bin-used.true

pub returns : goal.returns
returns c =
    bin_begun c.args.instance.now c.args.bins c.args.path.now c.requires.boxes c.boxes-boxes.ensures.path c.requires.are
    c.args.bin c.used.result c.used.ensures c.if-not-bin-used.false
