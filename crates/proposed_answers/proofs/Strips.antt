-- What the answer for a strip says, from the bounds that were reached.
use Rattle.std.proofs.Common.{◌≡◌, ℕ, suc, pred, ◌-◌, ◌<◌, ◌≤◌, inl, inr, refl, sym, ap, subst, arith, Bool, List, []}
use Rattle.packing_terms.specs.Packing.{PlainInstance, Fits}
use Rattle.packing_terms.specs.Goals.{with_last_side, HasTooWideBox}
use Rattle.packing_terms.specs.Limits.{IsInternalInstance, max_height}
use Rattle.packing_terms.specs.Tokens.{PlainToken}
use Rattle.packing_terms.proofs.Internal.{internal_sides}
use Rattle.packing_terms.proofs.Neighbours.{fits_higher, least_height}
use Rattle.packing_terms.proofs.Refuted.{none_fits}
use Rattle.packing_terms.proofs.Excess.{excess_law}
use Rattle.tree_terms.specs.Trees.{PlainOutcome, Decided, Past, Yes, No}
use Rattle.tree_terms.specs.Levels.{PlainReached, level_by, height_run}
use Rattle.tree_terms.proofs.Optima.{stack_small, internal_at}
use Rattle.tree_terms.proofs.SpentRuns.{height_end}
use Rattle.text_terms.specs.declared.settings.Settings.{Settings}
use Rattle.class_search.specs.Right.{IsRight}
use Rattle.level_search.specs.Bounds.{PlainBounds, first_bounds, without_attempts, HasNoLevelLeft, IsClosed}
use Rattle.level_search.proofs.Narrowing.{are_first, closed}
use Rattle.strip_solver.specs.declared.strip.Strip.{Strip}
use Rattle.strip_solver.specs.declared.strip.Strip.TheVariants.{Least, Between, NoneFits}
use Rattle.strip_solver.specs.Strips.{IsAnswer, IsTrueStrip, IsCertifiedBetween}
use Rattle.proposed_answers.specs.Behind.{tree_count}
use Rattle.proposed_answers.specs.Shares.{level_share}
use Rattle.proposed_answers.specs.declared.effort.Effort.{Effort}
use Rattle.proposed_answers.specs.declared.effort.Effort.TheVariants.{Root, Share}
use Rattle.proposed_answers.specs.Heights.{IsPackedAt, IsRefutedAt, IsPastTree, IsPastHeight, IsHeightAnswer}
use Rattle.proposed_answers.specs.Heights.{AreHeightBounds}
use Rattle.proposed_answers.specs.Heights.{TellsHeights, IsNamedStrip, IsLimitedStrip, AreNeighboursPastBudget, height_count}

-- a right outcome is the answer at a height
pub height_answered : (instance : PlainInstance) (settings : Settings) (effort : Effort) (h : ℕ) (o : PlainOutcome)
    → IsRight (with_last_side instance h) [] o
    → (o ≡ Past → IsPastHeight instance settings effort h) → IsHeightAnswer instance settings effort h (level_by o)
height_answered instance settings effort h (Decided (Yes numbers count)) right past = right
height_answered instance settings effort h (Decided (No tokens count)) right past = right
height_answered instance settings effort h Past right past = past refl

-- a tree with more branchings than it was given is past the share, where it was given at least that
pub past_share : (instance : PlainInstance) (settings : Settings) (effort : Effort) (branchings : ℕ)
    → (effort ≡ Share → level_share settings.budget ≤ branchings)
    → branchings < tree_count instance settings.scales → IsPastTree instance settings effort
past_share instance settings Root branchings enough past = tt
past_share instance settings Share branchings enough past = let e = enough refl in omega (arith, e, past)

-- ---- what a run of heights gives

module _ (instance : PlainInstance) (limits : IsInternalInstance instance) (budget : ℕ) (scales : Bool) where
  pub run_named : (s : Strip) → IsAnswer instance budget scales s → IsNamedStrip instance s
  run_named (Least height places tokens) a = a.0
  run_named (Between refuted tokens height places) a = a.0
  run_named (NoneFits v i) a = a

  run_small : (height : ℕ) → (height_run instance budget scales).placed ≡ height → height ≤ max_height
  run_small height e = let h = (height_end instance limits budget scales).high in let s = stack_small instance limits in
      omega (arith, e, h, s)

  pub run_limited : (s : Strip) → IsAnswer instance budget scales s → IsLimitedStrip s
  run_limited (Least height places tokens) a = run_small height (ap (λ (r : PlainReached). r.placed) a.1)
  run_limited (Between refuted tokens height places) a = run_small height (ap (λ (r : PlainReached). r.placed) a.1)
  run_limited (NoneFits v i) a = tt

-- bounds by two heights with both certificates
pub between_bounds : (instance : PlainInstance) (settings : Settings) (refuted height : ℕ) (tokens : List PlainToken)
    (places : List ℕ)
    → IsCertifiedBetween [] instance refuted tokens height places → height ≤ max_height
    → AreHeightBounds instance settings Root (first_bounds refuted tokens height places)
between_bounds instance settings refuted height tokens places t most =
    are_first (IsPackedAt instance) (IsRefutedAt instance) (IsPastHeight instance settings Root) max_height refuted
    height tokens places t.order most t.refutes t.packed

-- the same two heights, of which no other is known to be past the budget
pub bounds_afresh : (instance : PlainInstance) (settings : Settings) (e f : Effort) (b : PlainBounds)
    → AreHeightBounds instance settings e b
    → AreHeightBounds instance settings f (without_attempts b)
bounds_afresh instance settings e f b h =
    are_first (IsPackedAt instance) (IsRefutedAt instance) (IsPastHeight instance settings f) max_height b.refuted
    b.placed b.tokens b.numbers h.order h.within h.denied h.shown

-- ---- what the bounds that were reached show

module _ (instance : PlainInstance) (limits : IsInternalInstance instance) (settings : Settings) (b : PlainBounds)
    (are : AreHeightBounds instance settings Share b) (narrow : HasNoLevelLeft b) where
  refuted_fits : ¬ Fits (with_last_side instance b.refuted)
  refuted_fits =
      let o = are.order in
      let w = are.within in
      let i = internal_at instance limits b.refuted (omega (arith, o, w)) in
      none_fits excess_law (with_last_side instance b.refuted) (internal_sides (with_last_side instance b.refuted) i)
      b.tokens are.denied

  pub bounds_true : (s : Strip) → TellsHeights b s → IsTrueStrip instance s
  bounds_true (Least height places tokens) t =
      let beside = t.beside in
      let e = t.height_is in
      let below : b.refuted ≡ height - 1 = omega (arith, beside, e) in
      record {
        least = rw (e, sym beside) (least_height instance b.refuted (rw beside (b.numbers, are.shown)) refuted_fits);
        packed = rw (t.height_is, t.places_are) are.shown;
        refuted = rw (t.tokens_are, sym below) are.denied;
      }
  bounds_true (Between refuted tokens height places) t =
      let o = t.apart in
      let e = t.refuted_is in
      let f = t.height_is in
      record {
        order = omega (arith, o, e, f);
        none_fits = (λ h l fits. refuted_fits (fits_higher instance h b.refuted (omega (arith, l, e)) fits));
        packed = rw (t.height_is, t.places_are) are.shown;
        refutes = rw (t.refuted_is, t.tokens_are) are.denied;
      }
  bounds_true (NoneFits v i) t = absurd t

  pub bounds_named : ¬ HasTooWideBox instance → (s : Strip) → TellsHeights b s → IsNamedStrip instance s
  bounds_named none (Least height places tokens) t = none
  bounds_named none (Between refuted tokens height places) t = none
  bounds_named none (NoneFits v i) t = absurd t

  pub bounds_limited : (s : Strip) → TellsHeights b s → IsLimitedStrip s
  bounds_limited (Least height places tokens) t = let e = t.height_is in let w = are.within in omega (arith, e, w)
  bounds_limited (Between refuted tokens height places) t = let e = t.height_is in let w = are.within in
      omega (arith, e, w)
  bounds_limited (NoneFits v i) t = absurd t

  pub bounds_past : (s : Strip) → TellsHeights b s → AreNeighboursPastBudget instance settings.budget settings.scales s
  bounds_past (Least height places tokens) t = tt
  bounds_past (Between refuted tokens height places) t =
      go (closed (IsPackedAt instance) (IsRefutedAt instance) (IsPastHeight instance settings Share) max_height
      b are narrow)
    where
      go : IsClosed (IsPastHeight instance settings Share) b
          → (level_share settings.budget < height_count instance settings.scales (suc refuted))
          × (level_share settings.budget < height_count instance settings.scales (pred height))
      go (inl n) = let a = t.apart in absurd (omega (arith, n, a))
      go (inr p) = (
        subst (λ (h : ℕ). level_share settings.budget < height_count instance settings.scales (suc h)) (sym t.refuted_is) p.0,
        subst (λ (h : ℕ). level_share settings.budget < height_count instance settings.scales (pred h)) (sym t.height_is) p.1,
      )
  bounds_past (NoneFits v i) t = absurd t
