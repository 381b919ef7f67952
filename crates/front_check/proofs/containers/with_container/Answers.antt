use Rattle.std.proofs.Common.{◌≡◌, ◌∙◌, refl, subst, IfOk}
use Rattle.packing_terms.specs.Packing.{PlainInstance}
use Rattle.front_check.proofs.Copies.{same_container}
use Rattle.front_check.proofs.containers.with_container.Goals as goal

pub returns : goal.returns
returns c =
    subst (λ (x : PlainInstance). IfOk c.with_last_side.result (λ i. i ≡ x))
    (same_container c.args.instance.now c.kerf.ensures.limits c.requires.plane c.in-Ok.flat c.args.width c.args.height _
    _ _ c.in-Ok.ensures.ok c.in_ok-container.ensures
    (c.in_ok-kerf.ensures ∙ (rw (c.kerf.ensures.value, c.kerf-2.ensures.value) refl)) c.in_ok-boxes.ensures)
    c.with_last_side.ensures
