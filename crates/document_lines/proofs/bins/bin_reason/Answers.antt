use Rattle.std.proofs.Common.{◌∙◌, ◌<◌, ◌*◌, sym, ap, ap₂, subst, arith, length, [], ◌∷◌}
use Rattle.std.specs.List.{All}
use Rattle.packing_terms.specs.Packing.{dims, box_count}
use Rattle.packing_terms.specs.Goals.{IsBoxSet, subset, in_bin, places_of}
use Rattle.verdict_terms.specs.Placing.{place_verdict}
use Rattle.verdict_terms.specs.Stages.{groups_reason}
use Rattle.verdict_terms.proofs.BinsGood.{set_places}
use Rattle.document_lines.proofs.BoxesIn.{bin_set}
use Rattle.document_lines.proofs.bins.bin_reason.Goals as goal

pub places_in-requires-clause-there : goal.places_in-requires-clause-there
places_in-requires-clause-there c =
    subst (All (λ v. v < box_count c.args.instance.now)) (sym (c.deref.ensures.value ∙ c.in_ok-boxes_in.ensures))
    (bin_set c.args.instance.now c.args.bins.now c.args.bin c.requires.count).there

pub subset-requires-clause-set : goal.subset-requires-clause-set
subset-requires-clause-set c =
    subst (IsBoxSet c.args.instance.now) (sym (c.deref-2.ensures.value ∙ c.in_ok-boxes_in.ensures))
    (bin_set c.args.instance.now c.args.bins.now c.args.bin c.requires.count)

pub group_reason-requires-clause-few : goal.group_reason-requires-clause-few
group_reason-requires-clause-few c =
    subst (All (λ v. v < 128)) (sym (c.deref-3.ensures.value ∙ c.in_ok-boxes_in.ensures))
    (λ k d l.
    let a = (bin_set c.args.instance.now c.args.bins.now c.args.bin c.requires.count).there k d l in
    let b = c.len-max_boxes.ensures.limits in
    omega (arith, a, b))

pub group_reason-requires-clause-places : goal.group_reason-requires-clause-places
group_reason-requires-clause-places c =
    ap length (c.deref-4.ensures.value
    ∙ (c.in_ok-places_in.ensures ∙ ap (places_of c.args.instance.now c.args.places.now)
    (c.deref.ensures.value ∙ c.in_ok-boxes_in.ensures)))
    ∙ (set_places c.args.instance.now c.args.places.now (in_bin c.args.bins.now c.args.bin)
    ∙ ap (λ s. box_count s * dims s)
    (sym (c.in_ok-set.ensures ∙ ap (subset c.args.instance.now)
    (c.deref-2.ensures.value ∙ c.in_ok-boxes_in.ensures))))

pub returns : goal.returns
returns c =
    c.group_reason.ensures
    ∙ (ap (λ k. groups_reason ((k, place_verdict c.in_ok-set.set c.deref-4.result.now) ∷ []))
    (c.deref-3.ensures.value ∙ c.in_ok-boxes_in.ensures)
    ∙ ap₂ (λ s l. groups_reason ((in_bin c.args.bins.now c.args.bin, place_verdict s l) ∷ []))
    (c.in_ok-set.ensures ∙ ap (subset c.args.instance.now) (c.deref-2.ensures.value ∙ c.in_ok-boxes_in.ensures))
    (c.deref-4.ensures.value ∙ (c.in_ok-places_in.ensures ∙ ap (places_of c.args.instance.now c.args.places.now)
    (c.deref.ensures.value ∙ c.in_ok-boxes_in.ensures))))
