use Rattle.std.proofs.Common.{◌≡◌, ◌+◌, ◌*◌, arith, ap, ◌∙◌, length, length-set, get_or-set_other}
use Rattle.packing_terms.specs.Packing.{box_count, container_side, side}
use Rattle.packing_terms.specs.Scales.{scale_image}
use Rattle.conservative_scales.proofs.FastestRows.{put_image, row_place}
use Rattle.conservative_scales.proofs.rows.put.Goals as goal

pub loop-box_no-preserved : goal.loop-box_no-preserved
loop-box_no-preserved c =
    let scaled : c.image-scaled.result ≡ scale_image c.args.f (container_side c.args.instance.now 0)
    (side c.args.instance.now c.loop-box_no.box_no 0) =
    c.image-scaled.ensures ∙ ap (λ w. scale_image c.args.f w c.side.result) c.container_side-whole_side.ensures
    ∙ ap (λ x. scale_image c.args.f (container_side c.args.instance.now 0) x) c.side.ensures in
    let boxes = c.len.ensures.value in
    let size = c.loop-box_no.invariant.size in
    let room = c.requires.room.row in
    let place = row_place (box_count c.args.instance.now) c.args.row c.loop-box_no.box_no (length c.args.functions.now)
    c.requires.few (omega arith) in
    rw boxes (record {
      size = length-set c.loop-box_no.made (c.args.row * box_count c.args.instance.now + c.loop-box_no.box_no) _ ∙ size;
      kept = λ k l. get_or-set_other c.loop-box_no.made
          (c.args.row * box_count c.args.instance.now + c.loop-box_no.box_no) k _ 0
          (λ e. absurd (omega (arith, e, l))) ∙ c.loop-box_no.invariant.kept k l;
      images = put_image c.loop-box_no.made (c.args.row * box_count c.args.instance.now) c.loop-box_no.box_no _
          (λ v. scale_image c.args.f (container_side c.args.instance.now 0) (side c.args.instance.now v 0))
          (omega (arith, place, room, size)) c.loop-box_no.invariant.images scaled;
    })
