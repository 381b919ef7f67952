-- Made instances are within the limits.
use Rattle.std.proofs.Common.{ℕ, zero, suc, ◌+◌, ◌*◌, ◌<◌, ◌≤◌, refl, sym, subst, arith, [], ◌∷◌, map, slice_index}
use Rattle.std.specs.List.{range_with_len}
use Rattle.std.proofs.lemmas.List.FromFn.{length-map-range_with_len, get_or-map-range_with_len}
use Rattle.packing_terms.specs.Packing.{no_box}
use Rattle.packing_terms.specs.Limits.{IsSide, AreSides, AreKerfs, IsBox, AreBoxItems, IsInstance}
use Rattle.packing_terms.specs.Generator.{made_count, made_side, made_box, made_instance}

side_within : (number k : ℕ) → IsSide 0 (made_side number k)
side_within number k = (omega arith, omega arith)

pair_within : (a b : ℕ) → IsSide 0 a → IsSide 0 b → AreSides (0 ∷ 0 ∷ []) (a ∷ b ∷ [])
pair_within a b first second zero lt = first
pair_within a b first second (suc zero) lt = second
pair_within a b first second (suc (suc i)) lt = absurd (omega (arith, lt))

no_kerfs : AreKerfs 2 (0 ∷ 0 ∷ [])
no_kerfs = record { count = refl; each = each }
  where
    each : (i : ℕ) → i < 2 → slice_index (0 ∷ 0 ∷ []) i ≤ 100000
    each zero lt = omega arith
    each (suc zero) lt = omega arith
    each (suc (suc i)) lt = absurd (omega (arith, lt))

box_made : (number v : ℕ) → IsBox 2 (0 ∷ 0 ∷ []) (made_box number v)
box_made number v = record {
  count = refl;
  sides = pair_within _ _ (side_within number (2 * v + 2)) (side_within number (2 * v + 3));
  value = omega arith;
}

boxes_made : (number : ℕ) → AreBoxItems 2 (0 ∷ 0 ∷ []) (map (made_box number) (range_with_len 0 (made_count number)))
boxes_made number =
    let long = length-map-range_with_len (made_box number) 0 (made_count number) in
    record {
      count = (omega (arith, long), omega (arith, long));
      each = λ v lt. subst (IsBox 2 (0 ∷ 0 ∷ []))
          (sym (get_or-map-range_with_len (made_box number) 0 (made_count number) v v no_box (omega (arith, long, lt))
          (omega arith))) (box_made number v);
    }

pub made_within : (number : ℕ) → IsInstance (made_instance number)
unfolding made_instance
made_within number = record {
  dimensions = (omega arith, omega arith);
  container = pair_within 1000 1000 (omega arith, omega arith) (omega arith, omega arith);
  kerf = no_kerfs;
  boxes = boxes_made number;
}
