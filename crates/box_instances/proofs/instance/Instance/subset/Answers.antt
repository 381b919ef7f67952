use Rattle.std.proofs.Common.{◌≡◌, ℕ, List, map, get_or, sym, ap, ap₂, subst, ◌∙◌}
use Rattle.std.proofs.lemmas.List.{take_all}
use Rattle.packing_terms.specs.Packing.{PlainInstance, PlainBox, no_box}
use Rattle.packing_terms.specs.Goals.{subset}
use Rattle.packing_terms.specs.Limits.{IsInternalInstance}
use Rattle.box_instances.specs.Plain.{plain_instance}
use Rattle.box_instances.proofs.Subsets.{subset_within}
use Rattle.box_instances.proofs.instance.Instance.subset.Goals as goal

abbrev with_parts : List ℕ → List ℕ → List PlainBox → PlainInstance
with_parts sides kerfs boxes = record { container = sides; kerfs = kerfs; boxes = boxes }

pub of_parts-requires : goal.of_parts-requires
of_parts-requires c =
    let seen : plain_instance c.self.inside.container c.self.inside.kerf c.self.inside.boxes ≡ c.args.self.now =
    c.self.view_is in
    let within : IsInternalInstance (subset c.args.self.now c.args.keep.now)
    = subset_within c.args.self.now c.args.keep.now c.requires.set c.requires.some
    (subst IsInternalInstance seen c.self.invariant.within) in
    let sides = c.in_ok-container.ensures ∙ (c.as_slice.ensures ∙ ap (λ (i : PlainInstance). i.container) seen) in
    let kerfs = c.in_ok-kerf.ensures ∙ (c.as_slice-2.ensures ∙ ap (λ (i : PlainInstance). i.kerfs) seen) in
    let boxes = c.loop-v.invariant ∙ ap (map (λ u. get_or c.args.self.now.boxes u no_box))
    (take_all c.loop-v.v-index c.args.keep.now c.loop-v-test.false) in
    subst IsInternalInstance (sym (ap₂ (λ s b. with_parts s c.in_ok-kerf.kerf.items b) sides boxes
    ∙ ap (λ k. with_parts c.args.self.now.container k
    (map (λ u. get_or c.args.self.now.boxes u no_box) c.args.keep.now)) kerfs)) within
