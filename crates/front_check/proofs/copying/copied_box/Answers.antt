use Rattle.std.proofs.Common.{◌∙◌, refl}
use Rattle.front_check.proofs.Copies.{same_box}
use Rattle.front_check.proofs.copying.copied_box.Goals as goal

pub returns : goal.returns
returns c =
    same_box c.args.instance.now c.len-limits.ensures.limits c.requires.plane c.args.v c.requires.there _ _
    (c.in_ok-sides.ensures ∙ (rw (c.written_side.ensures, c.written_side-2.ensures) refl)) c.value-value.ensures
