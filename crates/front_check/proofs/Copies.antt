-- Copies of boxes and kerfs in two dimensions.
use Rattle.std.proofs.Common.{◌≡◌, ℕ, ◌<◌, refl, ap, ◌∙◌, arith, List, [], ◌∷◌, length, get_or}
use Rattle.packing_terms.specs.Packing.{PlainInstance, PlainBox, no_box, dims, box_count}
use Rattle.packing_terms.specs.Limits.{IsInternalInstance}
use Rattle.packing_terms.specs.Goals.{with_last_side}
use Rattle.verdict_terms.specs.Fronts.{with_container}

pub two_numbers : (xs : List ℕ) → length xs ≡ 2 → get_or xs 0 0 ∷ get_or xs 1 0 ∷ [] ≡ xs
two_numbers [] e = absurd (omega (arith, e))
two_numbers (x ∷ []) e = absurd (omega (arith, e))
two_numbers (x ∷ y ∷ []) e = refl
two_numbers (x ∷ y ∷ z ∷ zs) e = absurd (omega (arith, e))

abbrev made : List ℕ → List ℕ → List PlainBox → PlainInstance
made container kerfs boxes = record { container = container; kerfs = kerfs; boxes = boxes }

module _ (instance : PlainInstance) (limits : IsInternalInstance instance) (plane : dims instance ≡ 2) where
  pub two_kerfs : get_or instance.kerfs 0 0 ∷ get_or instance.kerfs 1 0 ∷ [] ≡ instance.kerfs
  two_kerfs = two_numbers instance.kerfs (limits.container.kerf.count ∙ plane)

  pub two_sides : (v : ℕ) → v < box_count instance
      → get_or (get_or instance.boxes v no_box).sides 0 0 ∷ get_or (get_or instance.boxes v no_box).sides 1 0 ∷ []
      ≡ (get_or instance.boxes v no_box).sides
  two_sides v l = two_numbers (get_or instance.boxes v no_box).sides ((limits.boxes.each v l).count ∙ plane)

  pub same_box : (v : ℕ) → v < box_count instance → (sides : List ℕ) (value : ℕ)
      → sides ≡ get_or (get_or instance.boxes v no_box).sides 0 0
      ∷ get_or (get_or instance.boxes v no_box).sides 1 0 ∷ []
      → value ≡ (get_or instance.boxes v no_box).value
      → (λ (b : PlainBox). b ≡ get_or instance.boxes v no_box) (record { sides = sides; value = value })
  same_box v l sides value e f = rw (e, f, two_sides v l) refl

  pub same_container : (flat : PlainInstance) (w h : ℕ) (container kerfs : List ℕ) (boxes : List PlainBox)
      → flat ≡ record { container = container; kerfs = kerfs; boxes = boxes }
      → container ≡ w ∷ 1 ∷ [] → kerfs ≡ get_or instance.kerfs 0 0 ∷ get_or instance.kerfs 1 0 ∷ []
      → boxes ≡ instance.boxes
      → with_last_side flat h ≡ with_container instance w h
  same_container flat w h container kerfs boxes e f g k = ap (λ (x : PlainInstance). with_last_side x h) (e ∙ same)
    where
      same : made container kerfs boxes ≡ made (w ∷ 1 ∷ []) instance.kerfs instance.boxes
      same = rw (f, g, two_kerfs, k) refl
