use Rattle.std.proofs.Common.{◌≡◌, ◌+◌, ◌*◌, arith, ap, ◌∙◌, get_or, length-set}
use Rattle.packing_terms.specs.Packing.{box_count, container_side, side}
use Rattle.packing_terms.specs.Scales.{scale_image}
use Rattle.conservative_scales.proofs.PartialProducts.{image_most, scaled_small, scaled_kept, scaled_more}
use Rattle.conservative_scales.proofs.partial.scale.Goals as goal

pub overflow_mul-images : goal.overflow_mul-images
overflow_mul-images c =
    let scaled : c.image-scaled.result ≡ scale_image c.args.f (container_side c.args.instance.now c.args.dim)
    (side c.args.instance.now c.loop-box_no.box_no c.args.dim) =
    c.image-scaled.ensures ∙ ap (λ w. scale_image c.args.f w c.side.result) c.container_side-whole_side.ensures
    ∙ ap (λ x. scale_image c.args.f (container_side c.args.instance.now c.args.dim) x) c.side.ensures in
    let most = image_most c.args.instance.now c.args.f c.loop-box_no.box_no c.args.dim c.len-boxes.ensures.limits
    c.requires.fit c.requires.there c.requires.legal (omega arith) in
    let same = c.loop-box_no.invariant.kept (c.args.at + c.loop-box_no.box_no) (omega arith) in
    let product = scaled_small (get_or c.args.images.now (c.args.at + c.loop-box_no.box_no) 0) c.image-scaled.result
    (c.requires.small c.loop-box_no.box_no (omega arith)) (rw scaled most) in
    rw same (omega (arith, product))

pub loop-box_no-preserved : goal.loop-box_no-preserved
loop-box_no-preserved c =
    let scaled : c.image-scaled.result ≡ scale_image c.args.f (container_side c.args.instance.now c.args.dim)
    (side c.args.instance.now c.loop-box_no.box_no c.args.dim) =
    c.image-scaled.ensures ∙ ap (λ w. scale_image c.args.f w c.side.result) c.container_side-whole_side.ensures
    ∙ ap (λ x. scale_image c.args.f (container_side c.args.instance.now c.args.dim) x) c.side.ensures in
    let same = c.loop-box_no.invariant.kept (c.args.at + c.loop-box_no.box_no) (omega arith) in
    let boxes = c.len-boxes.ensures.value in
    let length = c.loop-box_no.invariant.length in
    rw boxes (record {
      length = length-set c.loop-box_no.images
          (c.args.at + c.loop-box_no.box_no + box_count c.args.instance.now) _ ∙ length;
      kept = scaled_kept c.loop-box_no.images c.args.images.now c.args.at (box_count c.args.instance.now)
          c.loop-box_no.box_no _ c.loop-box_no.invariant.kept;
      scaled = scaled_more c.loop-box_no.images c.args.images.now c.args.at (box_count c.args.instance.now)
          c.loop-box_no.box_no _
          (λ v. scale_image c.args.f (container_side c.args.instance.now c.args.dim)
          (side c.args.instance.now v c.args.dim))
          (omega (arith, length, boxes)) c.loop-box_no.invariant.scaled
          (ap (λ x. x * c.image-scaled.result) same
          ∙ ap (λ x. get_or c.args.images.now (c.args.at + c.loop-box_no.box_no) 0 * x) scaled);
    })
