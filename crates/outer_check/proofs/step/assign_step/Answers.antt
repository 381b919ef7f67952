use Rattle.std.proofs.Common.{sym, ◌∙◌}
use Rattle.outer_check.proofs.BinSteps.{assign_taken, assign_closed, assign_split}
use Rattle.outer_check.proofs.step.assign_step.Goals as goal

pub returns-then-is_decided : goal.returns-then-is_decided
returns-then-is_decided c =
    assign_taken c.args.instance.now c.args.bins c.args.path.now c.requires.boxes c.boxes-boxes.ensures.path
    c.requires.are c.args.box_no
    (sym c.names_box.ensures ∙ c.if-not-names_box.false) (sym c.is_decided.ensures ∙ c.if-is_decided.true)

pub returns-then-children-eq0 : goal.returns-then-children-eq0
returns-then-children-eq0 c =
    assign_closed c.args.instance.now c.args.bins c.args.path.now c.requires.boxes c.boxes-boxes.ensures.path
    c.requires.are c.args.box_no c.used-used.result c.bin_count-children.result
    (sym c.names_box.ensures ∙ c.if-not-names_box.false) (sym c.is_decided.ensures ∙ c.if-is_decided.false)
    c.used-used.ensures c.bin_count-children.ensures c.if-children-eq0.true

pub returns : goal.returns
returns c =
    assign_split c.args.instance.now c.args.bins c.args.path.now c.requires.boxes c.boxes-boxes.ensures.path
    c.requires.are c.args.box_no c.used-used.result c.bin_count-children.result
    (sym c.names_box.ensures ∙ c.if-not-names_box.false) (sym c.is_decided.ensures ∙ c.if-is_decided.false)
    c.used-used.ensures c.bin_count-children.ensures c.if-children-eq0.false
