use Rattle.std.proofs.Common.{◌∙◌, ◌<◌, ℕ, sym, subst}
use Rattle.std.proofs.lemmas.Bool.{true≢false, and_from}
use Rattle.packing_terms.specs.Exclusions.{excludes}
use Rattle.refutation_steps.proofs.Linked.{not_tried}
use Rattle.refutation_steps.proofs.Rowed.{linked_row, not_behind}
use Rattle.refutation_steps.proofs.links.link_pair.Goals as goal

pub returns-then-u-v : goal.returns-then-u-v
returns-then-u-v c = not_tried c.args.instance.now c.args.state.now _ _
    (λ x hx boxes h k. absurd (boxes.1.0 c.if-u-v.true))

pub returns-then-has : goal.returns-then-has
returns-then-has c =
    let off = not_behind (excludes c.args.state.now.trail) c.args.dim c.args.state.now.boxes c.args.u c.args.v _
    (c.requires.unsure c.args.v)
    (sym c.has.ensures ∙ c.if-has.true) in
    not_tried c.args.instance.now c.args.state.now _ _
    (λ x hx boxes h k. absurd (true≢false (sym (and_from _ _ h.0 h.1) ∙ off)))

pub returns-in-None : goal.returns-in-None
returns-in-None c = not_tried c.args.instance.now c.args.state.now _ _
    (λ x hx boxes h k. linked_row (excludes c.args.state.now.trail) c.args.dim c.args.state.now.boxes c.args.u c.args.v
    x _ _ _
    (subst (λ (n : ℕ). x < n) (sym c.requires.sizes.same_boxes) hx) boxes.1.1.0 (c.requires.unsure x)
    (c.unsure_row.ensures x) (c.minus-open.ensures x) (c.in-None.ensures.least x) k)
