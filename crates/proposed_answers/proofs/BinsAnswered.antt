-- What the answer for bins says, from the bounds that were reached.
use Rattle.std.proofs.Common.{◌≡◌, ℕ, suc, pred, ◌-◌, ◌<◌, ◌≤◌, inl, inr, refl, sym, ap, subst, arith, Bool, true}
use Rattle.std.proofs.Common.{false, ltb, if◌then◌else◌, List, []}
use Rattle.std.proofs.lemmas.Bool.{ltb-true}
use Rattle.packing_terms.specs.Packing.{PlainInstance, box_count}
use Rattle.packing_terms.specs.Goals.{FitsInBins, HasTooLargeBox}
use Rattle.packing_terms.specs.Limits.{IsInternalInstance}
use Rattle.packing_terms.specs.OuterRefutation.{IsBinRefutation}
use Rattle.packing_terms.specs.Tokens.{PlainToken}
use Rattle.packing_terms.proofs.Internal.{internal_sides}
use Rattle.packing_terms.proofs.Neighbours.{fits_in_more, least_bins}
use Rattle.packing_terms.proofs.BinsRefuted.{none_fits_bins}
use Rattle.packing_terms.proofs.Excess.{excess_law}
use Rattle.tree_terms.specs.Trees.{Verdict, Yes, No, Decided, Past, outcome}
use Rattle.tree_terms.specs.OuterTrees.{bin_tree}
use Rattle.tree_terms.specs.OuterSearch.{bins_in, places_in, AreBinNumbers, IsBinRight}
use Rattle.tree_terms.specs.Levels.{PlainReached, level_by, bin_run}
use Rattle.tree_terms.specs.RunEnds.{bin_answer}
use Rattle.tree_terms.proofs.SpentRuns.{bins_end}
use Rattle.text_terms.specs.declared.settings.Settings.{Settings}
use Rattle.level_search.specs.Bounds.{PlainBounds, first_bounds, without_attempts, HasNoLevelLeft, IsClosed, AreBounds}
use Rattle.level_search.proofs.Narrowing.{are_first, closed}
use Rattle.bin_knapsack.specs.declared.bins.Bins.{Bins}
use Rattle.bin_knapsack.specs.declared.bins.Bins.TheVariants.{Least, Between, NoneFits}
use Rattle.bin_knapsack.specs.BinAnswers.{IsAnswer, AreTrueBins, IsCertifiedBetween}
use Rattle.proposed_answers.specs.Counts.{bins_count, IsPastCount, IsBinsAnswer, AreBinBounds, AreFirstBounds, TellsBins}
use Rattle.proposed_answers.specs.Counts.{AreNamedBins, AreLimitedBins, AreNeighboursPastBudget}

-- the outcome under the budget of the tree for a number of bins is the answer there
pub bins_answered : (instance : PlainInstance) (settings : Settings) (k : ℕ)
    → IsBinRight instance k [] (outcome (bin_tree instance k settings.scales))
    → IsBinsAnswer instance settings k (bin_answer instance settings.budget settings.scales k)
bins_answered instance settings k =
    go (ltb settings.budget (bins_count instance settings.scales k)) refl
    (outcome (bin_tree instance k settings.scales))
  where
    go : (b : Bool) → ltb settings.budget (bins_count instance settings.scales k) ≡ b → (v : Verdict)
        → IsBinRight instance k [] v
        → IsBinsAnswer instance settings k (level_by (if b then Past else Decided v))
    go true e v h = ltb-true settings.budget (bins_count instance settings.scales k) e
    go false e (Yes ns c) h = h
    go false e (No ts c) h = h

-- ---- what a run of numbers of bins gives

module _ (instance : PlainInstance) (limits : IsInternalInstance instance) (budget : ℕ) (scales : Bool) where
  pub run_named : (b : Bins) → IsAnswer instance budget scales b → AreNamedBins instance b
  run_named (Least bins numbers tokens) a = a.0
  run_named (Between refuted tokens bins numbers) a = a.0
  run_named (NoneFits v i) a = a

  run_small : (bins : ℕ) → (bin_run instance budget scales).placed ≡ bins → (1 ≤ bins) × (bins ≤ box_count instance)
  run_small bins e =
      let h = (bins_end instance limits budget scales).high in
      let o = (bins_end instance limits budget scales).order in
      (omega (arith, e, o), omega (arith, e, h))

  pub run_limited : (b : Bins) → IsAnswer instance budget scales b → AreLimitedBins instance b
  run_limited (Least bins numbers tokens) a = run_small bins (ap (λ (r : PlainReached). r.placed) a.1)
  run_limited (Between refuted tokens bins numbers) a = run_small bins (ap (λ (r : PlainReached). r.placed) a.1)
  run_limited (NoneFits v i) a = tt

-- bounds by two numbers with both certificates
pub between_bounds : (instance : PlainInstance) (refuted bins : ℕ) (tokens : List PlainToken) (numbers : List ℕ)
    → IsCertifiedBetween instance refuted tokens bins numbers → bins ≤ box_count instance
    → AreFirstBounds instance (first_bounds refuted tokens bins numbers)
between_bounds instance refuted bins tokens numbers t most =
    are_first (AreBinNumbers instance) (IsBinRefutation instance) (λ k. Unit {0}) (box_count instance) refuted bins
    tokens numbers t.order most t.refutes t.packed

-- the same two numbers, of which no other is known to be past the budget
pub bounds_afresh : (instance : PlainInstance) (Spent : ℕ → Type 0) (settings : Settings) (b : PlainBounds)
    → AreBounds (AreBinNumbers instance) (IsBinRefutation instance) Spent (box_count instance) b
    → AreBinBounds instance settings (without_attempts b)
bounds_afresh instance Spent settings b h =
    are_first (AreBinNumbers instance) (IsBinRefutation instance) (IsPastCount instance settings) (box_count instance)
    b.refuted b.placed b.tokens b.numbers h.order h.within h.denied h.shown

-- ---- what the bounds that were reached show

module _ (instance : PlainInstance) (limits : IsInternalInstance instance) (settings : Settings) (b : PlainBounds)
    (are : AreBinBounds instance settings b) (narrow : HasNoLevelLeft b) where
  refuted_fits : ¬ FitsInBins instance b.refuted
  refuted_fits = none_fits_bins excess_law instance (internal_sides instance limits) b.refuted b.tokens are.denied

  placed_fits : FitsInBins instance b.placed
  placed_fits = (bins_in instance b.numbers, places_in instance b.numbers, (are.shown).packing)

  pub bounds_true : (s : Bins) → TellsBins b s → AreTrueBins instance s
  bounds_true (Least bins numbers tokens) t =
      let beside = t.beside in
      let e = t.bins_are in
      let below : b.refuted ≡ bins - 1 = omega (arith, beside, e) in
      record {
        least = rw (e, sym beside) (least_bins instance b.refuted (rw beside placed_fits) refuted_fits);
        packed = rw (t.bins_are, t.numbers_are) are.shown;
        refuted = rw (t.tokens_are, sym below) are.denied;
      }
  bounds_true (Between refuted tokens bins numbers) t =
      let o = t.apart in
      let e = t.refuted_is in
      let f = t.bins_are in
      record {
        order = omega (arith, o, e, f);
        none_fits = (λ j l fits. refuted_fits (fits_in_more instance j b.refuted (omega (arith, l, e)) fits));
        packed = rw (t.bins_are, t.numbers_are) are.shown;
        refutes = rw (t.refuted_is, t.tokens_are) are.denied;
      }
  bounds_true (NoneFits v i) t = absurd t

  pub bounds_named : ¬ HasTooLargeBox instance → (s : Bins) → TellsBins b s → AreNamedBins instance s
  bounds_named none (Least bins numbers tokens) t = none
  bounds_named none (Between refuted tokens bins numbers) t = none
  bounds_named none (NoneFits v i) t = absurd t

  pub bounds_limited : (s : Bins) → TellsBins b s → AreLimitedBins instance s
  bounds_limited (Least bins numbers tokens) t =
      let e = t.bins_are in
      let w = are.within in
      let o = are.order in
      (omega (arith, e, o), omega (arith, e, w))
  bounds_limited (Between refuted tokens bins numbers) t =
      let e = t.bins_are in
      let w = are.within in
      let o = are.order in
      (omega (arith, e, o), omega (arith, e, w))
  bounds_limited (NoneFits v i) t = absurd t

  pub bounds_past : (s : Bins) → TellsBins b s → AreNeighboursPastBudget instance settings.budget settings.scales s
  bounds_past (Least bins numbers tokens) t = tt
  bounds_past (Between refuted tokens bins numbers) t =
      go (closed (AreBinNumbers instance) (IsBinRefutation instance) (IsPastCount instance settings)
      (box_count instance) b are narrow)
    where
      go : IsClosed (IsPastCount instance settings) b
          → (settings.budget < bins_count instance settings.scales (suc refuted))
          × (settings.budget < bins_count instance settings.scales (pred bins))
      go (inl n) = let a = t.apart in absurd (omega (arith, n, a))
      go (inr p) = (
        subst (λ (k : ℕ). settings.budget < bins_count instance settings.scales (suc k)) (sym t.refuted_is) p.0,
        subst (λ (k : ℕ). settings.budget < bins_count instance settings.scales (pred k)) (sym t.bins_are) p.1,
      )
  bounds_past (NoneFits v i) t = absurd t

-- trees with more branchings than a budget have more than a smaller one
pub past_within : (instance : PlainInstance) (budget more : ℕ) (scales : Bool) → budget ≤ more → (s : Bins)
    → AreNeighboursPastBudget instance more scales s → AreNeighboursPastBudget instance budget scales s
past_within instance budget more scales h (Least bins numbers tokens) p = tt
past_within instance budget more scales h (Between refuted tokens bins numbers) p =
    let (low, high) = p in (omega (arith, h, low), omega (arith, h, high))
past_within instance budget more scales h (NoneFits v i) p = tt
