-- What the answer of `strip` with proposals says.
use Rattle.std.proofs.Common.{ℕ, suc, pred, ◌≡◌, ◌-◌, ◌*◌, ◌≤◌, ◌<◌, ◌⊎◌, inl, inr, arith, refl, sym, subst, List, []}
use Rattle.std.proofs.Common.{◌∷◌, length}
use Rattle.std.specs.declared.option.Option.{Option}
use Rattle.std.proofs.Math.ListN.{length-set}
use Rattle.std.proofs.lemmas.Bool.{cases_lt}
use Rattle.packing_terms.specs.Packing.{PlainInstance, Fits, dims, box_count}
use Rattle.packing_terms.specs.Goals.{with_last_side}
use Rattle.packing_terms.specs.Refutation.{Refutes}
use Rattle.packing_terms.specs.Tokens.{PlainToken}
use Rattle.packing_terms.specs.Tokens.PlainToken.{TooLarge}
use Rattle.packing_terms.specs.TooLarge.{IsFirstTooWide}
use Rattle.text_terms.specs.declared.settings.Settings.{Settings}
use Rattle.text_terms.specs.declared.claim.SolvingJob.TheVariants.{Strip as SolvesStrip}
use Rattle.answer_terms.specs.Answers.{Answer, answer_text, status_of}
use Rattle.answer_terms.specs.Shown.{ShowsNone}
use Rattle.answer_streams.specs.declared.solution.Solution.TheVariants.{Strip}
use Rattle.answer_streams.specs.Solutions.{strip_found, IsPlacedStrip}
use Rattle.strip_solver.specs.declared.strip.Strip.{Strip as FoundStrip}
use Rattle.strip_solver.specs.declared.strip.Strip.TheVariants.{Least, Between, NoneFits}
use Rattle.strip_solver.specs.Strips.{IsTrueStrip}
use Rattle.proposed_answers.specs.Shares.{level_share}
use Rattle.proposed_answers.specs.Heights.{height_count, IsNamedStrip, IsLimitedStrip, AreNeighboursPastBudget}
use Rattle.pack_streams.specs.Moves.{Appended}
use Rattle.pack_command.specs.Proposed.{IsProposedStrip, IsProposedSolution, IsProposedStripDecided}
use Rattle.pack_command.proofs.ProposedOwn.{IsOwnAnswer}

-- what was found is a solution
placed_by : (instance : PlainInstance) (strip : FoundStrip) → IsTrueStrip instance strip → IsNamedStrip instance strip
    → IsPlacedStrip instance strip
placed_by instance (Least height places tokens) t named =
    let d : dims (with_last_side instance height) ≡ dims instance =
    length-set instance.container (dims instance - 1) height in
    subst (λ (x : ℕ). length places.items ≡ box_count instance * x) d (t.packed).count
placed_by instance (Between refuted tokens height places) t named =
    let d : dims (with_last_side instance height) ≡ dims instance =
    length-set instance.container (dims instance - 1) height in
    subst (λ (x : ℕ). length places.items ≡ box_count instance * x) d (t.packed).count
placed_by instance (NoneFits v i) t named = let r = named.in_range in (named.there, omega (arith, r))

pub strip_proposed : (settings : Settings) (instance : PlainInstance) (strip : FoundStrip) → IsTrueStrip instance strip
    → IsNamedStrip instance strip
    → IsLimitedStrip strip → AreNeighboursPastBudget instance settings.budget settings.scales strip
    → IsProposedSolution SolvesStrip settings instance (Strip strip)
strip_proposed settings instance strip right named limited past = record {
  is = record { strip = strip; right = right; named = named; limited = limited; past = past; answer_is = refl };
  text = refl;
  placed = placed_by instance strip right named;
}

-- ---- its document is shown

wide_named : (instance : PlainInstance) (v i : ℕ) → IsFirstTooWide instance v i
    → ShowsNone instance (dims instance - 1) (TooLarge (suc v) (suc i) ∷ [])
wide_named instance v i f =
    let a = f.there in
    let b = f.in_range in
    record {
      box_no = suc v;
      dim = suc i;
      are = refl;
      large = record {
        box_from = omega arith;
        box_to = omega (arith, a);
        dim_from = omega arith;
        dim_to = omega (arith, b);
        large = f.large;
      };
      among = omega (arith, b);
    }

refuted_below : (instance : PlainInstance) (height : ℕ) (tokens : List PlainToken)
    → Refutes (with_last_side instance (height - 1)) [] tokens
    → Refutes (with_last_side instance (pred height)) [] tokens
refuted_below instance height tokens h =
    let e : height - 1 ≡ pred height = omega arith in
    subst (λ (g : ℕ). Refutes (with_last_side instance g) [] tokens) e h

own_by : (instance : PlainInstance) (strip : FoundStrip) → IsTrueStrip instance strip → IsNamedStrip instance strip
    → IsLimitedStrip strip
    → IsOwnAnswer SolvesStrip instance (strip_found strip)
own_by instance (Least height places tokens) t named limited =
    let some = (t.least).from in (
      refl,
      record {
        rising = omega (arith, some);
        most = limited;
        packing = t.packed;
        refutation = refuted_below instance height tokens t.refuted;
      },
    )
own_by instance (Between refuted tokens height places) t named limited =
    (refl, record { rising = t.order; most = limited; packing = t.packed; refutation = t.refutes })
own_by instance (NoneFits v i) t named limited = (refl, wide_named instance v i named)

-- ---- and it is the least height, two heights, or none

above_by : (instance : PlainInstance) (refuted h : ℕ) → ((g : ℕ) → g ≤ refuted → ¬ Fits (with_last_side instance g))
    → Fits (with_last_side instance h) → refuted < h
above_by instance refuted h none fits = go (cases_lt refuted h)
  where
    go : (refuted < h) ⊎ (h ≤ refuted) → refuted < h
    go (inl l) = l
    go (inr l) = absurd (none h l fits)

decided_by : (settings : Settings) (instance : PlainInstance) (old new : Option (List ℕ)) (strip : FoundStrip)
    → IsTrueStrip instance strip → IsNamedStrip instance strip
    → AreNeighboursPastBudget instance settings.budget settings.scales strip
    → Appended old new (answer_text instance (strip_found strip))
    → IsProposedStripDecided instance settings old new (status_of (strip_found strip))
decided_by settings instance old new (Least height places tokens) t named past written = inl (record {
  status_is = refl;
  height = height;
  least = t.least;
  places = places.items;
  packing = t.packed;
  tokens = tokens;
  refutation = refuted_below instance height tokens t.refuted;
  written = written;
})
decided_by settings instance old new (Between refuted tokens height places) t named past written = inr (inl (record {
  status_is = refl;
  refuted = refuted;
  placed = height;
  order = t.order;
  between = record {
    above = (λ h fits. above_by instance refuted h t.none_fits fits);
    fits = (places.items, t.packed);
  };
  places = places.items;
  packing = t.packed;
  tokens = tokens;
  refutation = t.refutes;
  past_above = past.0;
  past_below = past.1;
  written = written;
}))
decided_by settings instance old new (NoneFits v i) t named past written = inr (inr (record {
  status_is = refl;
  none = (λ (h, l). t h l.fits);
  box_no = v;
  dim = i;
  first = named;
  written = written;
}))

module _ (settings : Settings) (instance : PlainInstance) (answer : Answer)
    (is : IsProposedStrip settings instance answer) where
  pub strip_own : IsOwnAnswer SolvesStrip instance answer
  strip_own = subst (λ (a : Answer). IsOwnAnswer SolvesStrip instance a) (sym is.answer_is)
      (own_by instance is.strip is.right is.named is.limited)

  pub strip_proposed_decided : (old new : Option (List ℕ)) → Appended old new (answer_text instance answer)
      → IsProposedStripDecided instance settings old new (status_of answer)
  strip_proposed_decided old new written =
      subst (λ (a : Answer). IsProposedStripDecided instance settings old new (status_of a)) (sym is.answer_is)
      (decided_by settings instance old new is.strip is.right is.named is.past
      (subst (λ (a : Answer). Appended old new (answer_text instance a)) is.answer_is written))

-- it isn't two heights where the tree of no height is past the budget
pub strip_within : (settings : Settings) (instance : PlainInstance) (old new : Option (List ℕ)) (status : ℕ)
    → IsProposedStripDecided instance settings old new status
    → ((h : ℕ) → height_count instance settings.scales h ≤ level_share settings.budget) → ¬ (status ≡ 3)
strip_within settings instance old new status (inl l) few three = let e = l.status_is in omega (arith, e, three)
strip_within settings instance old new status (inr (inl b)) few three = let p = b.past_above in let f =
    few (suc b.refuted) in omega (arith, p, f)
strip_within settings instance old new status (inr (inr n)) few three = let e = n.status_is in omega (arith, e, three)
