-- What the answer for bins says, from where the run of numbers of bins ended.
use Rattle.std.proofs.Common.{◌≡◌, ℕ, ◌+◌, ◌-◌, ◌*◌, ◌/◌, ◌^◌, ◌≤◌, refl, sym, ap, subst, ◌∙◌, arith, Bool, true, false}
use Rattle.std.proofs.lemmas.Bool.{true≢false}
use Rattle.packing_terms.specs.Packing.{PlainInstance, dims, box_count}
use Rattle.packing_terms.specs.Goals.{FitsInBins, HasTooLargeBox, IsLeastBins}
use Rattle.packing_terms.specs.Limits.{IsInternalInstance, max_boxes}
use Rattle.packing_terms.specs.Sums.{sum_below}
use Rattle.packing_terms.specs.TooLarge.{IsFirstTooLarge}
use Rattle.packing_terms.specs.OuterRefutation.{IsBinRefutation}
use Rattle.packing_terms.proofs.Internal.{internal_sides}
use Rattle.packing_terms.proofs.Neighbours.{fits_in_more}
use Rattle.packing_terms.proofs.BinsRefuted.{none_fits_bins}
use Rattle.packing_terms.proofs.TooLarge.{too_large}
use Rattle.packing_terms.proofs.Excess.{excess_law}
use Rattle.tree_terms.specs.OuterSearch.{AreBinNumbers}
use Rattle.tree_terms.specs.Levels.{PlainReached, HasBothCertificates, first_bins, bin_run}
use Rattle.tree_terms.specs.RunEnds.{IsRisingEnd}
use Rattle.tree_terms.proofs.Optima.{bins_keep, bins_optimum}
use Rattle.tree_terms.proofs.SpentRuns.{bins_spent, bins_end, bins_enough}
use Rattle.bin_knapsack.specs.declared.bins.Bins.{Bins}
use Rattle.bin_knapsack.specs.declared.bins.Bins.TheVariants.{Least, Between, NoneFits}
use Rattle.bin_knapsack.specs.BinAnswers.{Tells, IsAnswer, AreTrueBins, IsSpentExactly, IsFinal}

-- the first box that is too large is one
has_large : (instance : PlainInstance) (v i : ℕ) → IsFirstTooLarge instance v i → HasTooLargeBox instance
has_large instance v i h = record { box_no = v; dim = i; there = h.there; in_range = h.in_range; large = h.large }

pub none_at_all : (instance : PlainInstance) (v i : ℕ) → IsFirstTooLarge instance v i → (k : ℕ)
    → ¬ FitsInBins instance k
none_at_all instance v i w k = too_large instance k (has_large instance v i w)

module _ (instance : PlainInstance) (limits : IsInternalInstance instance) (small : ¬ HasTooLargeBox instance)
    (budget : ℕ) (scales : Bool)
    (r : PlainReached) (run : r ≡ bin_run instance budget scales) where
  pub answer_told : (b : Bins) → Tells r b → IsAnswer instance budget scales b
  answer_told (Least bins numbers tokens) t = (small, sym run ∙ t)
  answer_told (Between refuted tokens bins numbers) t = (small, sym run ∙ t)
  answer_told (NoneFits v i) t = absurd t

  abbrev Both : PlainReached → Type 0
  Both x = HasBothCertificates (λ k ns. AreBinNumbers instance k ns) (λ k ts. IsBinRefutation instance k ts) x

  both : (x : PlainReached) → r ≡ x → Both x
  both x e = subst (λ (y : PlainReached). Both y) (sym run ∙ e) (bins_keep instance limits small budget scales)

  least_at : (x : PlainReached) → r ≡ x → x.spent ≡ false → IsLeastBins instance x.placed
  least_at x e u =
      let f : bin_run instance budget scales ≡ x = sym run ∙ e in
      subst (λ (y : PlainReached). IsLeastBins instance y.placed) f
      (bins_optimum instance limits excess_law small budget scales (ap (λ (y : PlainReached). y.spent) f ∙ u))

  -- where the run ends
  pub ended : IsRisingEnd (first_bins instance scales) r
  ended = subst (λ (y : PlainReached). IsRisingEnd (first_bins instance scales) y) (sym run)
      (bins_end instance limits budget scales)

  pub placed_small : r.placed ≤ max_boxes
  placed_small = let a = ended.high in let b = limits.boxes.count.1 in omega (arith, a, b)

  pub true_told : (b : Bins) → Tells r b → AreTrueBins instance b
  true_told (Least bins numbers tokens) t =
      let k = both _ t in
      record { least = least_at _ t refl; packed = k.1; refuted = k.0 }
  true_told (Between refuted tokens bins numbers) t =
      let order = ended.order in
      let k = both _ t in
      let a : r.refuted ≡ refuted = ap (λ (y : PlainReached). y.refuted) t in
      let b : r.placed ≡ bins = ap (λ (y : PlainReached). y.placed) t in
      record {
        order = omega (arith, a, b, order);
        none_fits = (λ j l f. none_fits_bins excess_law instance (internal_sides instance limits) refuted
            tokens k.0
            (fits_in_more instance j refuted l f));
        packed = k.1;
        refutes = k.0;
      }
  true_told (NoneFits v i) t = absurd t

  spent_run : (b : Bool) → r.spent ≡ b → (bin_run instance budget scales).spent ≡ b
  spent_run b e = sym (ap (λ (y : PlainReached). y.spent) run) ∙ e

  pub spent_told : (b : Bins) → Tells r b → IsSpentExactly instance budget scales b
  spent_told (Least bins numbers tokens) t =
      (λ large. true≢false (sym ((bins_spent instance budget scales).1 large)
      ∙ spent_run false (ap (λ (y : PlainReached). y.spent) t)))
  spent_told (Between refuted tokens bins numbers) t =
      (bins_spent instance budget scales).0 (spent_run true (ap (λ (y : PlainReached). y.spent) t))
  spent_told (NoneFits v i) t = tt

  pub final_told : 3 ^ (dims instance * box_count instance * (box_count instance - 1) / 2)
      * sum_below (box_count instance) (λ j. (box_count instance - 1) ^ (j + 1)) ≤ budget → (b : Bins)
      → Tells r b → IsFinal b
  final_told l (Least bins numbers tokens) t = tt
  final_told l (Between refuted tokens bins numbers) t =
      true≢false (sym (spent_run true (ap (λ (y : PlainReached). y.spent) t))
      ∙ bins_enough instance limits budget scales l)
  final_told l (NoneFits v i) t = tt
