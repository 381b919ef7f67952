-- Ranges of numbers, as sets of boxes.
use Rattle.std.proofs.Common.{◌≡◌, ℕ, ◌+◌, ◌<◌, ◌≤◌, arith, length, get_or}
use Rattle.std.specs.List.{range_with_len}
use Rattle.std.proofs.lemmas.List.FromFn.{length-range_with_len, get_or-range_with_len}
use Rattle.packing_terms.specs.Packing.{PlainInstance, box_count}
use Rattle.packing_terms.specs.Goals.{IsBoxSet}

-- the first boxes are a set
pub range_set : (instance : PlainInstance) (k : ℕ) → k ≤ box_count instance → IsBoxSet instance (range_with_len 0 k)
range_set instance k h = record { there = λ i d l. there i d l; rising = λ i l. rising i l }
  where
    few : length (range_with_len 0 k) ≡ k
    few = length-range_with_len 0 k

    there : (i d : ℕ) → i < length (range_with_len 0 k) → get_or (range_with_len 0 k) i d < box_count instance
    there i d l = let m : i < k = omega (arith, l, few) in rw (get_or-range_with_len 0 k i d m) (omega (arith, m, h))

    rising : (i : ℕ) → i + 1 < length (range_with_len 0 k)
        → get_or (range_with_len 0 k) i 0 < get_or (range_with_len 0 k) (i + 1) 0
    rising i l =
        let m : i + 1 < k = omega (arith, l, few) in
        rw (get_or-range_with_len 0 k i 0 (omega (arith, m)), get_or-range_with_len 0 k (i + 1) 0 m) (omega arith)
