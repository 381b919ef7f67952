-- The heights of the run without families, and heights within others.
use Rattle.std.proofs.Common.{◌≡◌, ℕ, suc, ◌-◌, ◌<◌, ◌≤◌, sym, ap, subst, arith, Bool, true, false, List, [], ◌∷◌}
use Rattle.std.proofs.Common.{Result, Ok, Err, IfOk}
use Rattle.packing_terms.specs.Packing.{PlainInstance, IsPacking}
use Rattle.packing_terms.specs.Limits.{IsInternalInstance, max_height}
use Rattle.packing_terms.specs.Goals.{with_last_side, HasTooWideBox}
use Rattle.packing_terms.specs.Tokens.{PlainToken}
use Rattle.packing_terms.specs.Refutation.{Refutes}
use Rattle.text_terms.specs.declared.settings.Settings.{Settings}
use Rattle.tree_terms.specs.Levels.{PlainReached, height_run}
use Rattle.verdict_terms.proofs.FamilySound.{plain_refutes}
use Rattle.answer_terms.specs.HeightAnswers.{BoundedStrip as PlainStrip, AreBoundedHeights, IsBoundedStrip}
use Rattle.answer_terms.specs.HeightAnswers.{AreJoining}
use Rattle.strip_solver.specs.declared.strip.Strip.{Strip}
use Rattle.strip_solver.specs.declared.strip.Strip.TheVariants.{Least, Between, NoneFits as NoHeightFits}
use Rattle.strip_solver.specs.Strips as strips
use Rattle.strip_solver.specs.Strips.{IsTrueStrip, IsSpentExactly}
use Rattle.proposed_answers.specs.Heights.{IsNamedStrip, IsLimitedStrip, AreNeighboursPastBudget}
use Rattle.proposed_answers.proofs.Strips.{run_named, run_limited}
use Rattle.bounded_answers.specs.declared.height_levels.HeightLevels.{HeightLevels}
use Rattle.bounded_answers.specs.declared.height_levels.BoundedStrip.{BoundedStrip}
use Rattle.bounded_answers.specs.declared.height_levels.BoundedStrip.TheVariants.{Levels}
use Rattle.bounded_answers.specs.Heights.{as_families, told_heights, strip_told, plain_strip, IsAnswer, IsWithin}
use Rattle.bounded_answers.specs.Heights.{IsOpenWithout, IsOpenOnlyPast}

-- ---- the heights that an answer names

joining_plain : (ts : List PlainToken) → AreJoining (as_families ts)
joining_plain [] = tt
joining_plain (t ∷ ts) = joining_plain ts

told_are_heights : (instance : PlainInstance) (refuted placed : ℕ) (places : List ℕ) (tokens : List PlainToken)
    → refuted < placed → placed ≤ max_height → ¬ HasTooWideBox instance
    → IsPacking (with_last_side instance placed) places → Refutes (with_last_side instance refuted) [] tokens
    → AreBoundedHeights instance (told_heights refuted tokens placed places)
told_are_heights instance refuted placed places tokens rising most narrow packed refutes = record {
  rising = rising;
  most = most;
  narrow = narrow;
  packing = packed;
  refutation = plain_refutes (with_last_side instance refuted) refutes;
  joining = joining_plain tokens;
}

told_strip : (instance : PlainInstance) (s : Strip) → IsTrueStrip instance s → IsNamedStrip instance s
    → IsLimitedStrip s → IsBoundedStrip instance (strip_told s)
told_strip instance (Least height places tokens) is narrow most =
    let from = is.least.from in
    told_are_heights instance (height - 1) height places.items tokens (omega (arith, from)) most narrow is.packed
    is.refuted
told_strip instance (Between refuted tokens height places) is narrow most =
    told_are_heights instance refuted height places.items tokens is.order most narrow is.packed is.refutes
told_strip instance (NoHeightFits v i) is named most = named

-- ---- where they stay open

run_open : (instance : PlainInstance) (settings : Settings) (s : Strip)
    → strips.IsAnswer instance settings.budget settings.scales s
    → IsSpentExactly instance settings.budget settings.scales s → IsOpenOnlyPast false instance settings (strip_told s)
run_open instance settings (Least height places tokens) e spent = λ gap. absurd (omega (arith, gap))
run_open instance settings (Between refuted tokens height places) e spent = λ gap.
    let low : (height_run instance settings.budget settings.scales).refuted ≡ refuted =
    ap (λ (r : PlainReached). r.refuted) e.1 in
    let high : (height_run instance settings.budget settings.scales).placed ≡ height =
    ap (λ (r : PlainReached). r.placed) e.1 in
    record { spent = spent; lower = omega (arith, low); upper = omega (arith, high) }
run_open instance settings (NoHeightFits v i) e spent = tt

proposed_open : (instance : PlainInstance) (settings : Settings) (s : Strip)
    → AreNeighboursPastBudget instance settings.budget settings.scales s → IsOpenOnlyPast true instance settings (strip_told s)
proposed_open instance settings (Least height places tokens) past = λ gap. absurd (omega (arith, gap))
proposed_open instance settings (Between refuted tokens height places) past = λ gap. record {
  low = refuted;
  high = height;
  lower = omega arith;
  upper = omega arith;
  past_above = past.0;
  past_below = past.1;
}
proposed_open instance settings (NoHeightFits v i) past = tt

module _ (instance : PlainInstance) (s : Strip) (strip : BoundedStrip) (told : plain_strip strip ≡ strip_told s) where
  base_answer : IsTrueStrip instance s → IsNamedStrip instance s → IsLimitedStrip s → IsAnswer instance strip
  base_answer is named most =
      subst (λ (a : PlainStrip). IsBoundedStrip instance a) (sym told) (told_strip instance s is named most)

  pub proposed_base_answer : IsTrueStrip instance s → IsNamedStrip instance s → IsLimitedStrip s
      → IsAnswer instance strip
  proposed_base_answer = base_answer

  pub plain_base_answer : (settings : Settings) → IsInternalInstance instance → IsTrueStrip instance s
      → strips.IsAnswer instance settings.budget settings.scales s → IsAnswer instance strip
  plain_base_answer settings limits is e =
      base_answer is (run_named instance limits settings.budget settings.scales s e)
      (run_limited instance limits settings.budget settings.scales s e)

  pub plain_base_open : (settings : Settings) → strips.IsAnswer instance settings.budget settings.scales s
      → IsSpentExactly instance settings.budget settings.scales s
      → IsOpenOnlyPast false instance settings (plain_strip strip)
  plain_base_open settings e spent =
      subst (λ (a : PlainStrip). IsOpenOnlyPast false instance settings a) (sym told) (run_open instance settings s e spent)

  pub proposed_base_open : (settings : Settings) → AreNeighboursPastBudget instance settings.budget settings.scales s
      → IsOpenOnlyPast true instance settings (plain_strip strip)
  proposed_base_open settings past =
      subst (λ (a : PlainStrip). IsOpenOnlyPast true instance settings a) (sym told) (proposed_open instance settings s past)

-- ---- levels within others

pub within_same : (levels : HeightLevels) → IsWithin levels levels
within_same levels = record { refuted = omega arith; placed = omega arith }

pub within_more : (outer middle inner : HeightLevels) → IsWithin outer middle → IsWithin middle inner
    → IsWithin outer inner
within_more outer middle inner h k =
    let a = h.refuted in let b = h.placed in let c = k.refuted in let d = k.placed in
    record { refuted = omega (arith, a, c); placed = omega (arith, b, d) }

open_within : (proposals : Bool) (instance : PlainInstance) (settings : Settings) (outer inner : HeightLevels)
    → IsWithin outer inner → IsOpenWithout proposals instance settings outer.refuted outer.placed
    → IsOpenWithout proposals instance settings inner.refuted inner.placed
open_within false instance settings outer inner w h =
    let a = w.refuted in let b = w.placed in let c = h.lower in let d = h.upper in
    record { spent = h.spent; lower = omega (arith, a, c); upper = omega (arith, b, d) }
open_within true instance settings outer inner w h =
    let a = w.refuted in let b = w.placed in let c = h.lower in let d = h.upper in
    record {
      low = h.low;
      high = h.high;
      lower = omega (arith, a, c);
      upper = omega (arith, b, d);
      past_above = h.past_above;
      past_below = h.past_below;
    }

pub narrowed_open : (proposals : Bool) (instance : PlainInstance) (settings : Settings) (outer inner : HeightLevels)
    → IsWithin outer inner → IsOpenOnlyPast proposals instance settings (plain_strip (Levels outer))
    → IsOpenOnlyPast proposals instance settings (plain_strip (Levels inner))
narrowed_open proposals instance settings outer inner w h = λ gap.
    let a = w.refuted in let b = w.placed in
    open_within proposals instance settings outer inner w (h (omega (arith, gap, a, b)))
