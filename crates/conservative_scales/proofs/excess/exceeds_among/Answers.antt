use Rattle.std.proofs.Common.{arith, ◌∙◌, length}
use Rattle.conservative_scales.proofs.Named.{named_fits, image_of_named, in_position, at_position}
use Rattle.conservative_scales.proofs.Products.{total_next, excess_at_end, excess_is_told}
use Rattle.packing_terms.specs.Packing.{box_count}
use Rattle.packing_terms.specs.Goals.{subset}
use Rattle.packing_terms.proofs.Excess.{excess_law}
use Rattle.packing_terms.specs.Scales.{Exceeds}
use Rattle.std.proofs.lemmas.List.{length-map}
use Rattle.std.proofs.Common.{sym, ◌≡◌}
use Rattle.conservative_scales.proofs.excess.exceeds_among.Goals as goal

pub image_product-total-requires-clause-fits : goal.image_product-total-requires-clause-fits
image_product-total-requires-clause-fits c =
    named_fits c.args.instance.now c.args.keep.now c.loop-k.k c.loop-k-test.true c.requires.fit

pub overflow_add-total : goal.overflow_add-total
overflow_add-total c =
    let p = at_position c.args.instance.now c.args.keep.now c.requires.named c.loop-k.k c.loop-k-test.true in
    let q = in_position c.args.instance.now c.args.keep.now c.requires.named c.loop-k.k c.loop-k-test.true in
    let r = c.image_product-total.ensures.limits.boxes.count.1 in
    let t = c.loop-k.invariant.limit in
    omega (arith, p, q, r, t)

pub loop-k-preserved : goal.loop-k-preserved
loop-k-preserved c =
    total_next _ _ _ _ c.loop-k.invariant
    (c.image_product-total.ensures.value ∙ image_of_named c.args.instance.now c.args.keep.now c.args.tuple.now
    c.loop-k.k c.loop-k-test.true)
    c.image_product-total.ensures.limit

pub returns-clause-exactly : goal.returns-clause-exactly
returns-clause-exactly c =
    let e : c.loop-k.k ≡ length c.args.keep.now = omega arith in
    let n : c.loop-k.k ≡ box_count (subset c.args.instance.now c.args.keep.now) =
    e ∙ sym (length-map c.args.keep.now _) in (
      λ x. excess_at_end (subset c.args.instance.now c.args.keep.now) c.args.tuple.now c.args.copies _ _ _
          (record { count = c.requires.tuple.count; legal = c.requires.tuple.legal }) c.requires.fit c.loop-k.invariant
          n c.whole_product.ensures.value x,
      λ x. excess_is_told (subset c.args.instance.now c.args.keep.now) c.args.tuple.now c.args.copies _ _ _
          c.loop-k.invariant n c.whole_product.ensures.value x,
    )

pub returns-clause-refutes : goal.returns-clause-refutes
returns-clause-refutes c x =
    excess_law.bins (subset c.args.instance.now c.args.keep.now) c.args.tuple.now c.args.copies
    ((returns-clause-exactly c).0 x)

pub returns-clause-refutes_one : goal.returns-clause-refutes_one
returns-clause-refutes_one c x e =
    let h : Exceeds (subset c.args.instance.now c.args.keep.now) c.args.tuple.now c.args.copies =
    (returns-clause-exactly c).0 x in
    excess_law.one (subset c.args.instance.now c.args.keep.now) c.args.tuple.now (rw e at h)
