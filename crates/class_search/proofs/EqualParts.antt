-- Instances with the same parts are the same.
use Rattle.std.proofs.Common.{◌≡◌, ℕ, ◌<◌, refl, sym, ap₂, ◌∙◌, length, get_or}
use Rattle.std.proofs.lemmas.Grind.{same_number_lists}
use Rattle.std.proofs.lemmas.List.{ext_get_or}
use Rattle.packing_terms.specs.Packing.{PlainBox, PlainInstance, no_box, dims, box_count}
use Rattle.packing_terms.specs.Limits.{IsInternalInstance}
use Rattle.class_search.specs.Same.{AreSameContainers, AreSameBoxes}

same_box : (a b : PlainBox) → a.sides ≡ b.sides → a.value ≡ b.value → a ≡ b
same_box a b e f = ap₂ (λ s v. record { sides = s; value = v }) e f

same_parts : (a b : PlainInstance) → a.container ≡ b.container → a.kerfs ≡ b.kerfs → a.boxes ≡ b.boxes → a ≡ b
same_parts a b e f g = ap₂ (λ c k. record { container = c; kerfs = k; boxes = a.boxes }) e f
    ∙ ap₂ (λ c bs. record { container = c; kerfs = b.kerfs; boxes = bs }) refl g

pub same_instances : (a b : PlainInstance) → IsInternalInstance a → IsInternalInstance b → AreSameContainers a b
    → box_count a ≡ box_count b
    → ((v : ℕ) → v < box_count a → AreSameBoxes a b v) → a ≡ b
same_instances a b p q same count boxes =
    same_parts a b
    (same_number_lists a.container b.container same.dimensions same.sides)
    (same_number_lists a.kerfs b.kerfs (p.container.kerf.count ∙ (same.dimensions ∙ sym q.container.kerf.count))
    (λ i l. same.kerfs i (rw p.container.kerf.count at l)))
    (ext_get_or no_box a.boxes b.boxes count
    (λ v l. at_box v l (p.boxes.each v l).count (q.boxes.each v (rw count at l)).count (boxes v l)))
  where
    at_box : (v : ℕ) → v < box_count a → length (get_or a.boxes v no_box).sides ≡ dims a
        → length (get_or b.boxes v no_box).sides ≡ dims b → AreSameBoxes a b v
        → get_or a.boxes v no_box ≡ get_or b.boxes v no_box
    at_box v l m n h = same_box (get_or a.boxes v no_box) (get_or b.boxes v no_box)
        (same_number_lists (get_or a.boxes v no_box).sides (get_or b.boxes v no_box).sides
        (m ∙ (same.dimensions ∙ sym n)) (λ i k. h.sides i (rw m at k))) h.values
