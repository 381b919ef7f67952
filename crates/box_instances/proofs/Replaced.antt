-- Sets of boxes, and instances of which one box is replaced.
use Rattle.std.proofs.Common.{◌≡◌, ℕ, ◌<◌, ◌⊎◌, inl, inr, List, ◌++◌, length, map, take, get_or, slice_set, arith, sym}
use Rattle.std.proofs.Common.{ap, ◌∙◌}
use Rattle.std.proofs.lemmas.Bool.{cases_eq}
use Rattle.std.proofs.lemmas.List.{length-map, map-set, length-set, get_or-set_same, get_or-set_other, append-nil}
use Rattle.std.proofs.lemmas.List.{take_all, drop_all}
use Rattle.std.specs.List.{refill}
use Rattle.smallvec.specs.SmallVec.{with_items}
use Rattle.packing_terms.specs.Packing.{PlainInstance, PlainBox, no_box, dims, box_count}
use Rattle.packing_terms.specs.Limits.{IsBox, IsInternalInstance}
use Rattle.box_instances.specs.declared.instance.BoxItem.{BoxItem}
use Rattle.box_instances.specs.Plain.{plain_box}
use Rattle.box_instances.proofs.Boxes.{box_at}

-- one box is replaced by another
pub box_replaced : (instance : PlainInstance) (at : ℕ) (b : PlainBox) → IsInternalInstance instance
    → IsBox (dims instance) instance.kerfs b
    → IsInternalInstance (record instance { boxes = slice_set instance.boxes at b })
box_replaced instance at b limits good = record {
  container = limits.container;
  boxes = record {
    count = let e = length-set instance.boxes at b in
        (omega (arith, e, limits.boxes.count.0), omega (arith, e, limits.boxes.count.1));
    each = λ v l. let h : v < length instance.boxes = (let e = length-set instance.boxes at b in omega (arith, e, l)) in
        go v h (cases_eq v at);
  };
}
  where
    go : (v : ℕ) → v < length instance.boxes → (v ≡ at) ⊎ (v ≡ at → ⊥)
        → IsBox (dims instance) instance.kerfs (get_or (slice_set instance.boxes at b) v no_box)
    go v h (inl e) = rw e (rw (get_or-set_same instance.boxes at b no_box (rw (← e) h)) good)
    go v h (inr ne) = rw (get_or-set_other instance.boxes at v b no_box ne) (limits.boxes.each v h)

-- a written list of the same length
pub refilled : (old new : List ℕ) → length new ≡ length old → refill (length old) old new ≡ new
refilled old new e =
    ap (λ (l : List ℕ). take (length old) (new ++ l)) (drop_all (length new) old (omega (arith, e)))
    ∙ (ap (λ (l : List ℕ). take (length old) l) (append-nil new) ∙ take_all (length old) new (omega (arith, e)))

-- the boxes after box `at` was overwritten by a known one
pub boxes_replaced : (items : List BoxItem) (at : ℕ) (own : BoxItem) (item : BoxItem) (sides : List ℕ)
    → sides ≡ item.sides.items → length sides ≡ length own.sides.items
    → map plain_box (slice_set items at (record { sides = with_items own.sides sides; value = item.value }))
    ≡ slice_set (map plain_box items) at (plain_box item)
boxes_replaced items at own item sides e count =
    map-set plain_box items at _
    ∙ ap (λ (l : List ℕ). slice_set (map plain_box items) at (record { sides = l; value = item.value }))
    (refilled own.sides.items sides count ∙ e)

-- a box of an instance that is seen
pub box_there : (seen known : PlainInstance) (v : ℕ) → seen ≡ known → v < box_count known → v < box_count seen
box_there seen known v e h = rw e h

-- the box that is kept for a number is the one of that number
pub box_named : (seen : PlainInstance) (items : List BoxItem) (known : PlainInstance) (v : ℕ) (item : BoxItem)
    → seen ≡ known → seen.boxes ≡ map plain_box items
    → v < length (map plain_box items) → item ≡ get_or items v item → plain_box item ≡ get_or known.boxes v no_box
box_named seen items known v item e is few there =
    let small : v < length items = omega (arith, length-map items plain_box, few) in
    ap plain_box there ∙ (sym (box_at items v item small)
    ∙ (ap (λ (l : List PlainBox). get_or l v no_box) (sym is)
    ∙ ap (λ (i : PlainInstance). get_or i.boxes v no_box) e))
