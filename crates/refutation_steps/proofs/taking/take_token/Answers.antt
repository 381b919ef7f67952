use Rattle.std.proofs.Common.{sym, subst}
use Rattle.proof_tree.specs.declared.token.Token.{Token}
use Rattle.proof_tree.specs.Plain.{plain_token}
use Rattle.refutation_steps.specs.Walks.{IsLeafWritten, Takes}
use Rattle.refutation_steps.proofs.Going.{on_ok}
use Rattle.refutation_steps.proofs.Taken.{side_taken, scales_taken}
use Rattle.refutation_steps.proofs.taking.take_token.Goals as goal

pub returns-in-TooLarge : goal.returns-in-TooLarge
returns-in-TooLarge c = on_ok c.take_leaf.result
    (λ w. subst (λ (t : Token). Takes c.args.instance.now c.args.walk.now c.take_leaf.new.walk c.args.closed
    (plain_token t)) (sym c.in-TooLarge.is)
    (side_taken c.args.instance.now c.args.walk.now c.take_leaf.new.walk c.args.closed c.in-TooLarge.box_no
    c.in-TooLarge.dim c.requires.sizes
    (subst (λ (t : Token). IsLeafWritten c.args.walk.now c.take_leaf.new.walk (plain_token t)) c.in-TooLarge.is w)))
    c.take_leaf.ensures

pub returns-in-Scales : goal.returns-in-Scales
returns-in-Scales c = on_ok c.take_leaf-in-Scales.result
    (λ w. subst (λ (t : Token). Takes c.args.instance.now c.args.walk.now c.take_leaf-in-Scales.new.walk c.args.closed
    (plain_token t)) (sym c.in-Scales.is)
    (scales_taken c.args.instance.now c.args.walk.now c.take_leaf-in-Scales.new.walk c.args.closed
    c.in-Scales.field-0.items c.requires.sizes
    (subst (λ (t : Token). IsLeafWritten c.args.walk.now c.take_leaf-in-Scales.new.walk (plain_token t)) c.in-Scales.is
    w))) c.take_leaf-in-Scales.ensures
