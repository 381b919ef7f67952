use Rattle.std.proofs.Common.{sym, ◌∙◌}
use Rattle.outer_check.proofs.ValueSteps.{choose_taken, choose_split}
use Rattle.outer_check.proofs.step.choose_step.Goals as goal

pub returns-then-is_decided : goal.returns-then-is_decided
returns-then-is_decided c =
    choose_taken c.args.instance.now c.args.value c.args.path.now c.requires.boxes c.boxes-boxes.ensures.path
    c.requires.are c.args.box_no
    (sym c.names_box.ensures ∙ c.if-not-names_box.false) (sym c.is_decided.ensures ∙ c.if-is_decided.true)

pub returns : goal.returns
returns c =
    choose_split c.args.instance.now c.args.value c.args.path.now c.requires.boxes c.boxes-boxes.ensures.path
    c.requires.are c.args.box_no
    (sym c.names_box.ensures ∙ c.if-not-names_box.false) (sym c.is_decided.ensures ∙ c.if-is_decided.false)
