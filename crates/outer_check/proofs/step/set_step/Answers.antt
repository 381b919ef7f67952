use Rattle.std.proofs.Common.{sym, ◌∙◌}
use Rattle.outer_check.proofs.ValueSteps.{set_refused, set_begun}
use Rattle.outer_check.proofs.step.set_step.Goals as goal

pub returns-then-not-is_some_put : goal.returns-then-not-is_some_put
returns-then-not-is_some_put c =
    set_refused c.args.instance.now c.args.value c.args.path.now c.requires.boxes c.boxes-boxes.ensures.path
    c.requires.are
    (sym c.is_some_put.ensures.value ∙ c.if-not-is_some_put.true)

pub returns : goal.returns
returns c =
    set_begun c.args.instance.now c.args.value c.args.path.now c.requires.boxes c.boxes-boxes.ensures.path
    c.requires.are
    (sym c.is_some_put.ensures.value ∙ c.if-not-is_some_put.false)
