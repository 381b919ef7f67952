-- The boxes of a bin, one after another.
use Rattle.std.proofs.Common.{◌≡◌, ◌∙◌, ℕ, ◌+◌, ◌<◌, sym, ap₂, arith, length, Bool, List, [], ◌∷◌, ◌++◌, nat_eq}
use Rattle.std.proofs.Common.{if◌then◌else◌}
use Rattle.std.specs.List.{range_with_len, slice_index, filter}
use Rattle.std.proofs.lemmas.List.Kept.{IsStrictlyIncreasing-filter}
use Rattle.std.proofs.lemmas.List.Elements.{All-filter}
use Rattle.std.proofs.lemmas.List.FromFn.{length-range_with_len, get_or-range_with_len}
use Rattle.packing_terms.specs.Packing.{PlainInstance, box_count}
use Rattle.packing_terms.specs.Goals.{IsBoxSet, in_bin}
use Rattle.outer_check.proofs.Paths.{range_more}

module _ (bins : List ℕ) (b v : ℕ) (before : List ℕ)
    (are : before ≡ filter (λ v. nat_eq (slice_index bins v) b) (range_with_len 0 v)) where
  pub boxes_more : (after : List ℕ) (t : Bool) → nat_eq (slice_index bins v) b ≡ t
      → after ≡ before ++ (if t then v ∷ [] else [])
      → after ≡ filter (λ v. nat_eq (slice_index bins v) b) (range_with_len 0 (v + 1))
  boxes_more after t e f =
      f ∙ (ap₂ (λ xs t. xs ++ (if t then v ∷ [] else [])) are (sym e)
      ∙ sym (range_more (λ v. nat_eq (slice_index bins v) b) v))

-- the boxes of a bin are a set of boxes
pub bin_set : (instance : PlainInstance) (bins : List ℕ) (b : ℕ) → length bins ≡ box_count instance
    → IsBoxSet instance (in_bin bins b)
bin_set instance bins b count = record {
  there = All-filter (λ v. nat_eq (slice_index bins v) b) (λ v. v < box_count instance) (range_with_len 0 (length bins))
      (λ i d l.
      let n = length-range_with_len 0 (length bins) in
      let m : i < length bins = omega (arith, l, n) in
      let e = get_or-range_with_len 0 (length bins) i d m in
      omega (arith, e, m, count));
  rising = IsStrictlyIncreasing-filter (λ v. nat_eq (slice_index bins v) b) (range_with_len 0 (length bins))
      (λ i l.
      let n = length-range_with_len 0 (length bins) in
      let m : i + 1 < length bins = omega (arith, l, n) in
      let a = get_or-range_with_len 0 (length bins) i 0 (omega (arith, m)) in
      let e = get_or-range_with_len 0 (length bins) (i + 1) 0 m in
      omega (arith, a, e));
}
