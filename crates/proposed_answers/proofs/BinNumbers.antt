-- The bins and the coordinates in an answer for bins, box after box.
use Rattle.std.proofs.Common.{◌≡◌, ◌≢◌, ◌∙◌, ℕ, ◌+◌, ◌-◌, ◌*◌, ◌<◌, ◌≤◌, sym, ap, ap₂, arith, List, [], ◌∷◌, ◌++◌, map}
use Rattle.std.proofs.Common.{length, take, drop, get_or, Option, Some, None, Bool, true, false, not}
use Rattle.std.specs.Prelude.{MatchBool}
use Rattle.std.specs.List.{All, flat_map}
use Rattle.std.specs.Option.{is_some}
use Rattle.std.proofs.lemmas.List.{get_or-take, get_or-drop, length-take-le, length-drop}
use Rattle.std.proofs.lemmas.List.FromFn.{fill_by_all, map-range_with_len_more, length-map-range_with_len}
use Rattle.packing_terms.specs.Packing.{PlainInstance, dims, box_count}
use Rattle.packing_terms.specs.Sums.{below}
use Rattle.packing_terms.proofs.Ranges.{flat_map_last_below}
use Rattle.tree_terms.specs.OuterSearch.{bins_in, places_in, AreBinNumbers}
use Rattle.tree_terms.proofs.BinNumbers.{places_count}
use Rattle.verdict_terms.specs.declared.reason.Reason.{Reason}
use Rattle.verdict_terms.specs.Stages.{bins_reason}
use Rattle.verdict_terms.proofs.BinsGood.{bins_good}
use Rattle.verdict_terms.proofs.PlacesGiven.{no_bins_reason}

-- as many bins as boxes
pub bins_length : (instance : PlainInstance) (numbers : List ℕ) → length (bins_in instance numbers) ≡ box_count instance
bins_length instance numbers =
    length-map-range_with_len (λ v. get_or numbers (v * (dims instance + 1)) 0) 0 (box_count instance)

-- the bin of a box, and its coordinates
abbrev pub bin_at : PlainInstance → List ℕ → ℕ → ℕ
bin_at instance numbers v = get_or numbers (v * (dims instance + 1)) 0

abbrev pub row_at : PlainInstance → List ℕ → ℕ → List ℕ
row_at instance numbers v = map (λ i. get_or numbers (v * (dims instance + 1) + (1 + i)) 0) (below (dims instance))

-- one bin more
pub bins_more : (instance : PlainInstance) (numbers bins after : List ℕ) (v : ℕ)
    → bins ≡ map (bin_at instance numbers) (below v) → after ≡ bins ++ bin_at instance numbers v ∷ []
    → after ≡ map (bin_at instance numbers) (below (v + 1))
bins_more instance numbers bins after v h e =
    e ∙ (ap (λ xs. xs ++ bin_at instance numbers v ∷ []) h
    ∙ sym (map-range_with_len_more (bin_at instance numbers) 0 v v (omega arith)))

module _ (instance : PlainInstance) (numbers : List ℕ)
    (count : length numbers ≡ box_count instance * (dims instance + 1)) where
  -- the numbers of a box end within the list
  pub numbers_end : (v : ℕ) → v < box_count instance → v * (dims instance + 1) + 1 + dims instance ≤ length numbers
  numbers_end v l =
      let k = box_count instance - (v + 1) in
      let n : box_count instance ≡ v + 1 + k = omega (arith, l) in
      let e : (v + 1 + k) * (dims instance + 1)
      ≡ v * (dims instance + 1) + 1 + dims instance + k * (dims instance + 1) = grind arith in
      let f = ap (λ m. m * (dims instance + 1)) n in
      omega (arith, count, e, f)

  row_is : (v : ℕ) → v < box_count instance → take (dims instance) (drop (v * (dims instance + 1) + 1) numbers)
      ≡ row_at instance numbers v
  row_is v l =
      let e = numbers_end v l in
      let d = length-drop (v * (dims instance + 1) + 1) numbers in
      fill_by_all (λ i. get_or numbers (v * (dims instance + 1) + (1 + i)) 0)
      (take (dims instance) (drop (v * (dims instance + 1) + 1) numbers)) (dims instance) 0
      (length-take-le (dims instance) (drop (v * (dims instance + 1) + 1) numbers) (omega (arith, e, d)))
      (λ k m. get_or-take (dims instance) (drop (v * (dims instance + 1) + 1) numbers) k 0 m
      ∙ (get_or-drop (v * (dims instance + 1) + 1) numbers k 0 ∙ ap (λ j. get_or numbers j 0) (omega arith)))

  -- the coordinates of one box more
  pub rows_more : (places after : List ℕ) (v : ℕ) → v < box_count instance
      → places ≡ flat_map (row_at instance numbers) (below v)
      → after ≡ places ++ take (dims instance) (drop (v * (dims instance + 1) + 1) numbers)
      → after ≡ flat_map (row_at instance numbers) (below (v + 1))
  rows_more places after v l h e =
      e ∙ (ap₂ (λ xs ys. xs ++ ys) h (row_is v l) ∙ sym (flat_map_last_below (row_at instance numbers) v))

  -- bins and places that nothing is to be said against
  pub numbers_good : (k : ℕ) → All (λ b. b < k) (bins_in instance numbers)
      → bins_reason instance k (bins_in instance numbers) (places_in instance numbers) ≡ None
      → AreBinNumbers instance k numbers
  numbers_good k below_k good = record {
    count = count;
    packing = bins_good instance k (bins_in instance numbers) (places_in instance numbers)
        (bins_length instance numbers)
        (places_count instance numbers ∙ ap (λ n. n * dims instance) (sym (bins_length instance numbers))) below_k good;
  }

  pub numbers_bad : (k : ℕ) → bins_reason instance k (bins_in instance numbers) (places_in instance numbers) ≢ None
      → ¬ AreBinNumbers instance k numbers
  numbers_bad k bad are = bad (no_bins_reason instance k (bins_in instance numbers) (places_in instance numbers)
      are.packing)

  -- what is answered, by whether there is a reason to refuse them
  pub told_by : (k : ℕ) → All (λ b. b < k) (bins_in instance numbers) → (r : Option Reason)
      → bins_reason instance k (bins_in instance numbers) (places_in instance numbers) ≡ r
      → (b : Bool) → is_some r ≡ not b
      → MatchBool b (AreBinNumbers instance k numbers) (¬ AreBinNumbers instance k numbers)
  told_by k below_k None e true is = numbers_good k below_k e
  told_by k below_k None e false is = absurd (cc is)
  told_by k below_k (Some reason) e true is = absurd (cc is)
  told_by k below_k (Some reason) e false is = numbers_bad k (λ none. some_is reason (sym e ∙ none))
    where
      some_is : (reason : Reason) → ¬ (Some reason ≡ None)
      some_is reason f = cc f

-- what a test says that is met
pub met : (A B : Type 0) (b : Bool) → b ≡ true → MatchBool b A B → A
met A B true e m = m
met A B false e m = absurd (cc e)
