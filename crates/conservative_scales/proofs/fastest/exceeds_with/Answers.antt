use Rattle.std.proofs.Common.{◌+◌, ◌*◌, arith, ap, get_or}
use Rattle.packing_terms.specs.Packing.{container_side, side}
use Rattle.packing_terms.specs.Scales.{scale_image}
use Rattle.conservative_scales.proofs.PartialProducts.{image_most, scaled_small}
use Rattle.conservative_scales.proofs.Shares.{sum_next}
use Rattle.conservative_scales.proofs.fastest.exceeds_with.Goals as goal

pub overflow_add-total-in-loop-box_no : goal.overflow_add-total-in-loop-box_no
overflow_add-total-in-loop-box_no c =
    let made = c.requires.made c.loop-box_no.box_no (omega arith) in
    let most = image_most c.args.instance.now c.args.f c.loop-box_no.box_no 0 c.requires.limits c.requires.fit
    c.requires.there c.requires.legal (omega arith) in
    let product = scaled_small (get_or c.args.images.now (c.args.at + c.loop-box_no.box_no) 0)
    (get_or c.args.made.now (c.args.made_at + c.loop-box_no.box_no) 0)
    (c.requires.small c.loop-box_no.box_no (omega arith)) (rw made most) in
    let so_far = c.loop-box_no.invariant.limit in
    let few = c.requires.limits.boxes.count.1 in
    omega (arith, product, so_far, few)

pub loop-box_no-preserved : goal.loop-box_no-preserved
loop-box_no-preserved c =
    let made = c.requires.made c.loop-box_no.box_no (omega arith) in
    let most = image_most c.args.instance.now c.args.f c.loop-box_no.box_no 0 c.requires.limits c.requires.fit
    c.requires.there c.requires.legal (omega arith) in
    let product = scaled_small (get_or c.args.images.now (c.args.at + c.loop-box_no.box_no) 0)
    (get_or c.args.made.now (c.args.made_at + c.loop-box_no.box_no) 0)
    (c.requires.small c.loop-box_no.box_no (omega arith)) (rw made most) in
    let so_far = c.loop-box_no.invariant.limit in record {
      value = sum_next (λ v. get_or c.args.images.now (c.args.at + v) 0 * scale_image c.args.f
          (container_side c.args.instance.now 0) (side c.args.instance.now v 0))
          c.loop-box_no.box_no c.loop-box_no.total _ c.loop-box_no.invariant.value
          (ap (λ x. get_or c.args.images.now (c.args.at + c.loop-box_no.box_no) 0 * x) made);
      limit = omega (arith, product, so_far);
    }
