-- Made instances, as their boxes are made one by one.
use Rattle.std.proofs.Common.{◌≡◌, ℕ, suc, ◌+◌, ◌*◌, ◌/◌, ◌%◌, ◌≤◌, sym, ap, ap₂, subst, ◌∙◌, arith, List, [], ◌∷◌}
use Rattle.std.proofs.Common.{◌++◌, map}
use Rattle.std.specs.List.{range_with_len}
use Rattle.std.proofs.lemmas.List.FromFn.{map-range_with_len_more}
use Rattle.std.proofs.lemmas.List.{map_push}
use Rattle.packing_terms.specs.Packing.{PlainBox, PlainInstance}
use Rattle.packing_terms.specs.Limits.{IsInternalInstance}
use Rattle.packing_terms.specs.Generator.{next_seed, seed, made_count, made_box, made_instance}
use Rattle.box_instances.specs.declared.instance.BoxItem.{BoxItem}
use Rattle.box_instances.specs.Plain.{plain_box}
use Rattle.packing_terms.proofs.Internal.{written_internal}
use Rattle.packing_terms.proofs.Made.{made_within}

abbrev with_parts : List ℕ → List ℕ → List PlainBox → PlainInstance
with_parts container kerfs boxes = record { container = container; kerfs = kerfs; boxes = boxes }

-- two seeds on
two_on : (number k j : ℕ) → j ≡ suc (suc k) → next_seed (next_seed (seed number k)) ≡ seed number j
two_on number k j e = ap (seed number) (sym e)

-- the first `v` boxes of a number are made, and `last` is the seed behind their draws
pub record AreMade (number v last : ℕ) (list : List PlainBox) : Type 0 where
  pub seed : last ≡ seed number (2 * v + 1)
  pub boxes : list ≡ map (made_box number) (range_with_len 0 v)

-- one box more, by two draws more
pub made_more : (number v last : ℕ) (boxes items : List BoxItem) (item : BoxItem) (after : ℕ)
    → AreMade number v last (map plain_box boxes)
    → items ≡ boxes ++ item ∷ [] → plain_box item ≡ made_box number v → after ≡ next_seed (next_seed last)
    → AreMade number (v + 1) after (map plain_box items)
made_more number v last boxes items item after made pushed is on = record {
  seed = on ∙ (ap (λ s. next_seed (next_seed s)) made.seed ∙ two_on number (2 * v + 1) (2 * (v + 1) + 1) (omega arith));
  boxes = ap (map plain_box) pushed ∙ (map_push plain_box boxes item ∙ (ap₂ (λ bs b. bs ++ b ∷ []) made.boxes is
      ∙ sym (map-range_with_len_more (made_box number) 0 v v (omega arith))));
}

-- the parts with all boxes are the instance
pub made_whole : (number v last : ℕ) (container kerfs : List ℕ) (boxes : List PlainBox) → container ≡ 1000 ∷ 1000 ∷ []
    → kerfs ≡ 0 ∷ 0 ∷ []
    → AreMade number v last boxes → v ≡ made_count number → with_parts container kerfs boxes ≡ made_instance number
unfolding made_instance
made_whole number v last container kerfs boxes c k made all =
    ap₂ (λ c k. with_parts c k boxes) c k
    ∙ ap (λ bs. with_parts (1000 ∷ 1000 ∷ []) (0 ∷ 0 ∷ []) bs)
    (made.boxes ∙ ap (λ n. map (made_box number) (range_with_len 0 n)) all)

-- so they are within the limits
pub made_parts : (number v last : ℕ) (container kerfs : List ℕ) (boxes : List PlainBox) → container ≡ 1000 ∷ 1000 ∷ []
    → kerfs ≡ 0 ∷ 0 ∷ []
    → AreMade number v last boxes → v ≡ made_count number → IsInternalInstance (with_parts container kerfs boxes)
made_parts number v last container kerfs boxes c k made all =
    subst IsInternalInstance (sym (made_whole number v last container kerfs boxes c k made all))
    (written_internal (made_instance number) (made_within number))

-- the loop is at its end
pub count_made : (number first v : ℕ) → first ≡ next_seed number / 65536 → v ≤ 1 + first % 64 → 1 + first % 64 ≤ v
    → v ≡ made_count number
count_made number first v is most least =
    let at : v ≡ 1 + first % 64 = omega (arith, most, least) in
    at ∙ ap (λ x. 1 + x % 64) is
