-- What the answer of `bins` with proposals says.
use Rattle.std.proofs.Common.{ℕ, suc, pred, ◌≡◌, ◌-◌, ◌≤◌, ◌<◌, ◌⊎◌, inl, inr, arith, refl, sym, subst, List, [], ◌∷◌}
use Rattle.std.specs.declared.option.Option.{Option}
use Rattle.std.proofs.lemmas.Bool.{cases_lt}
use Rattle.packing_terms.specs.Packing.{PlainInstance, dims}
use Rattle.packing_terms.specs.Goals.{FitsInBins}
use Rattle.packing_terms.specs.OuterRefutation.{IsBinRefutation}
use Rattle.packing_terms.specs.Tokens.{PlainToken}
use Rattle.packing_terms.specs.Tokens.PlainToken.{TooLarge}
use Rattle.packing_terms.specs.TooLarge.{IsFirstTooLarge}
use Rattle.tree_terms.specs.OuterSearch.{bins_in, places_in}
use Rattle.text_terms.specs.declared.settings.Settings.{Settings}
use Rattle.text_terms.specs.declared.claim.SolvingJob.TheVariants.{Bins as SolvesBins}
use Rattle.answer_terms.specs.Answers.{Answer, answer_text, status_of}
use Rattle.answer_terms.specs.Shown.{ShowsNone}
use Rattle.answer_streams.specs.declared.solution.Solution.TheVariants.{Bins}
use Rattle.answer_streams.specs.Solutions.{bins_found, ArePlacedBins}
use Rattle.bin_knapsack.specs.declared.bins.Bins.{Bins as FoundBins}
use Rattle.bin_knapsack.specs.declared.bins.Bins.TheVariants.{Least, Between, NoneFits}
use Rattle.bin_knapsack.specs.BinAnswers.{AreTrueBins}
use Rattle.proposed_answers.specs.Counts.{bins_count, AreNamedBins, AreLimitedBins, AreNeighboursPastBudget}
use Rattle.pack_streams.specs.Moves.{Appended}
use Rattle.pack_command.specs.Proposed.{AreProposedBins, IsProposedSolution, AreProposedBinsDecided}
use Rattle.pack_command.proofs.ProposedOwn.{IsOwnAnswer}

-- what was found is a solution
placed_by : (instance : PlainInstance) (bins : FoundBins) → AreTrueBins instance bins → AreNamedBins instance bins
    → ArePlacedBins instance bins
placed_by instance (Least bins numbers tokens) t named = (t.packed).count
placed_by instance (Between refuted tokens bins numbers) t named = (t.packed).count
placed_by instance (NoneFits v i) t named = (named.there, named.in_range)

pub bins_proposed : (settings : Settings) (instance : PlainInstance) (bins : FoundBins) → AreTrueBins instance bins
    → AreNamedBins instance bins
    → AreLimitedBins instance bins → AreNeighboursPastBudget instance settings.budget settings.scales bins
    → IsProposedSolution SolvesBins settings instance (Bins bins)
bins_proposed settings instance bins right named limited past = record {
  is = record { bins = bins; right = right; named = named; limited = limited; past = past; answer_is = refl };
  text = refl;
  placed = placed_by instance bins right named;
}

-- ---- its document is shown

large_named : (instance : PlainInstance) (v i : ℕ) → IsFirstTooLarge instance v i
    → ShowsNone instance (dims instance) (TooLarge (suc v) (suc i) ∷ [])
large_named instance v i f =
    let a = f.there in
    let b = f.in_range in
    record {
      box_no = suc v;
      dim = suc i;
      are = refl;
      large = record {
        box_from = omega arith;
        box_to = omega (arith, a);
        dim_from = omega arith;
        dim_to = omega (arith, b);
        large = f.large;
      };
      among = omega (arith, b);
    }

refuted_below : (instance : PlainInstance) (bins : ℕ) (tokens : List PlainToken)
    → IsBinRefutation instance (bins - 1) tokens → IsBinRefutation instance (pred bins) tokens
refuted_below instance bins tokens h =
    let e : bins - 1 ≡ pred bins = omega arith in
    subst (λ (k : ℕ). IsBinRefutation instance k tokens) e h

own_by : (instance : PlainInstance) (bins : FoundBins) → AreTrueBins instance bins → AreNamedBins instance bins
    → AreLimitedBins instance bins
    → IsOwnAnswer SolvesBins instance (bins_found bins)
own_by instance (Least bins numbers tokens) t named limited =
    let some = limited.0 in (
      refl,
      record {
        rising = omega (arith, some);
        most = limited.1;
        packing = t.packed;
        refutation = refuted_below instance bins tokens t.refuted;
      },
    )
own_by instance (Between refuted tokens bins numbers) t named limited =
    (refl, record { rising = t.order; most = limited.1; packing = t.packed; refutation = t.refutes })
own_by instance (NoneFits v i) t named limited = (refl, large_named instance v i named)

-- ---- and it is the least number of bins, two numbers, or none

above_by : (instance : PlainInstance) (refuted k : ℕ) → ((j : ℕ) → j ≤ refuted → ¬ FitsInBins instance j)
    → FitsInBins instance k → refuted < k
above_by instance refuted k none fits = go (cases_lt refuted k)
  where
    go : (refuted < k) ⊎ (k ≤ refuted) → refuted < k
    go (inl l) = l
    go (inr l) = absurd (none k l fits)

decided_by : (settings : Settings) (instance : PlainInstance) (old new : Option (List ℕ)) (bins : FoundBins)
    → AreTrueBins instance bins → AreNamedBins instance bins
    → AreNeighboursPastBudget instance settings.budget settings.scales bins
    → Appended old new (answer_text instance (bins_found bins))
    → AreProposedBinsDecided instance settings old new (status_of (bins_found bins))
decided_by settings instance old new (Least bins numbers tokens) t named past written = inl (record {
  status_is = refl;
  bins = bins;
  least = t.least;
  numbers = numbers.items;
  packing = t.packed;
  tokens = tokens;
  refutation = refuted_below instance bins tokens t.refuted;
  written = written;
})
decided_by settings instance old new (Between refuted tokens bins numbers) t named past written = inr (inl (record {
  status_is = refl;
  refuted = refuted;
  placed = bins;
  order = t.order;
  between = record {
    above = (λ k fits. above_by instance refuted k t.none_fits fits);
    fits = (bins_in instance numbers.items, places_in instance numbers.items, (t.packed).packing);
  };
  numbers = numbers.items;
  packing = t.packed;
  tokens = tokens;
  refutation = t.refutes;
  past_above = past.0;
  past_below = past.1;
  written = written;
}))
decided_by settings instance old new (NoneFits v i) t named past written = inr (inr (record {
  status_is = refl;
  none = (λ (k, l). t k l.fits);
  box_no = v;
  dim = i;
  first = named;
  written = written;
}))

module _ (settings : Settings) (instance : PlainInstance) (answer : Answer)
    (is : AreProposedBins settings instance answer) where
  pub bins_own : IsOwnAnswer SolvesBins instance answer
  bins_own = subst (λ (a : Answer). IsOwnAnswer SolvesBins instance a) (sym is.answer_is)
      (own_by instance is.bins is.right is.named is.limited)

  pub bins_proposed_decided : (old new : Option (List ℕ)) → Appended old new (answer_text instance answer)
      → AreProposedBinsDecided instance settings old new (status_of answer)
  bins_proposed_decided old new written =
      subst (λ (a : Answer). AreProposedBinsDecided instance settings old new (status_of a)) (sym is.answer_is)
      (decided_by settings instance old new is.bins is.right is.named is.past
      (subst (λ (a : Answer). Appended old new (answer_text instance a)) is.answer_is written))

-- it isn't two numbers where the tree of no number is past the budget
pub bins_within : (settings : Settings) (instance : PlainInstance) (old new : Option (List ℕ)) (status : ℕ)
    → AreProposedBinsDecided instance settings old new status
    → ((k : ℕ) → bins_count instance settings.scales k ≤ settings.budget) → ¬ (status ≡ 3)
bins_within settings instance old new status (inl l) few three = let e = l.status_is in omega (arith, e, three)
bins_within settings instance old new status (inr (inl b)) few three = let p = b.past_above in let f =
    few (suc b.refuted) in omega (arith, p, f)
bins_within settings instance old new status (inr (inr n)) few three = let e = n.status_is in omega (arith, e, three)
