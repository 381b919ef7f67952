-- The levels of the run without priced leaves, and levels within others.
use Rattle.std.proofs.Common.{◌≡◌, ℕ, suc, ◌<◌, ◌≤◌, sym, ap, subst, arith, Bool, true, false, List, [], ◌∷◌, ◌++◌}
use Rattle.std.proofs.Common.{◌+◌, ◌∙◌, map, length, take, get_or, Result, Ok, Err, IfOk}
use Rattle.std.proofs.lemmas.List.{map_push, take_more}
use Rattle.packing_terms.specs.Packing.{PlainInstance}
use Rattle.packing_terms.specs.Limits.{IsInternalInstance}
use Rattle.packing_terms.specs.Tokens.{PlainToken}
use Rattle.text_terms.specs.declared.settings.Settings.{Settings}
use Rattle.text_terms.specs.Claims.{max_worth}
use Rattle.tree_terms.specs.Levels.{PlainReached, value_run, first_values}
use Rattle.tree_terms.proofs.FirstLevels.{value_above, value_zero}
use Rattle.tree_terms.proofs.SpentRuns.{value_end}
use Rattle.verdict_terms.specs.BoundedRefutation.{BoundedToken as PlainBounded, Plain as PlainPlain, PricedOut as PlainPriced}
use Rattle.verdict_terms.specs.BoundedRefutation.{Exchange as PlainExchange}
use Rattle.verdict_terms.proofs.BoundedSound.{plain_is_bounded}
use Rattle.answer_terms.specs.BoundedAnswers.{BoundedAnswer, IsBoundedAnswer, HaveParameters}
use Rattle.bounded_tokens.specs.declared.token.BoundedToken.{BoundedToken}
use Rattle.bounded_tokens.specs.Plain.{plain_bounded}
use Rattle.bin_knapsack.specs.declared.choice.Choice.{Choice}
use Rattle.bin_knapsack.specs.declared.choice.Choice.TheVariants.{Greatest, Between}
use Rattle.bin_knapsack.specs.Choices.{IsAnswer, IsTrueChoice, IsSpentExactly}
use Rattle.proposed_answers.specs.Values.{IsLimitedChoice, AreNeighboursPastBudget}
use Rattle.proposed_answers.proofs.Tops.{top_small}
use Rattle.bounded_answers.specs.declared.value_levels.ValueLevels.{ValueLevels}
use Rattle.bounded_answers.specs.ValueLevels.{levels_told, refuted_by, IsWithin, IsOpenWithout}
use Rattle.bounded_answers.specs.ValueLevels.{IsOpenOnlyPast, plain_levels, reached_levels}

-- ---- weights

pub parameters_plain : (ts : List PlainToken) → HaveParameters (map (λ t. PlainPlain t) ts)
parameters_plain [] = tt
parameters_plain (t ∷ ts) = parameters_plain ts

pub parameters_more : (ts : List PlainBounded) (t : PlainBounded) → HaveParameters ts → HaveParameters (t ∷ [])
    → HaveParameters (ts ++ t ∷ [])
parameters_more [] t h k = k
parameters_more (PlainPlain s ∷ ts) t h k = parameters_more ts t h k
parameters_more (PlainPriced q p fs ∷ ts) t h k = (h.0, h.1, parameters_more ts t h.2 k)
parameters_more (PlainExchange u v ∷ ts) t h k = (h.0, h.1, parameters_more ts t h.2 k)

-- the numbers of a token more
pub parameters_next : (tokens : List BoundedToken) (k : ℕ) (t : BoundedToken) → k < length tokens → t ≡ get_or tokens k t
    → HaveParameters (map plain_bounded (take k tokens)) → HaveParameters (plain_bounded t ∷ [])
    → HaveParameters (map plain_bounded (take (k + 1) tokens))
parameters_next tokens k t l is h one =
    subst HaveParameters (sym longer) (parameters_more (map plain_bounded (take k tokens)) (plain_bounded t) h one)
  where
    longer : map plain_bounded (take (k + 1) tokens) ≡ map plain_bounded (take k tokens) ++ plain_bounded t ∷ []
    longer = ap (map plain_bounded) (take_more tokens k t l ∙ ap (λ (x : BoundedToken). take k tokens ++ x ∷ []) (sym is))
        ∙ map_push plain_bounded (take k tokens) t

-- ---- the levels that an answer states

pub told_levels : (instance : PlainInstance) (choice : Choice) → IsTrueChoice instance choice
    → refuted_by choice ≤ max_worth → IsBoundedAnswer instance (levels_told choice)
told_levels instance (Greatest value numbers tokens) is small = record {
  rising = omega arith;
  most = small;
  packing = is.packed;
  refutation = plain_is_bounded instance (suc value) is.refuted;
  parameters = parameters_plain tokens;
}
told_levels instance (Between placed numbers refuted tokens) is small = record {
  rising = is.order;
  most = small;
  packing = is.packed;
  refutation = plain_is_bounded instance refuted is.refutes;
  parameters = parameters_plain tokens;
}

-- those that need no search
pub first_levels : (instance : PlainInstance) → IsInternalInstance instance
    → IsBoundedAnswer instance (reached_levels (first_values instance))
first_levels instance limits =
    let small = top_small instance limits in
    record {
      rising = omega arith;
      most = omega (arith, small);
      packing = value_zero instance limits;
      refutation = plain_is_bounded instance (first_values instance).refuted (value_above instance limits);
      parameters = parameters_plain (first_values instance).tokens;
    }

-- what the run refutes is at most one more than all boxes are worth
pub run_small : (instance : PlainInstance) (budget : ℕ) (scales : Bool) (choice : Choice) → IsInternalInstance instance
    → IsAnswer instance budget scales choice → refuted_by choice ≤ max_worth
run_small instance budget scales (Greatest value numbers tokens) limits e =
    let high = (value_end instance budget scales).high in
    let small = top_small instance limits in
    let same : (value_run instance budget scales).refuted ≡ suc value = ap (λ (r : PlainReached). r.refuted) e in
    omega (arith, high, small, same)
run_small instance budget scales (Between placed numbers refuted tokens) limits e =
    let high = (value_end instance budget scales).high in
    let small = top_small instance limits in
    let same : (value_run instance budget scales).refuted ≡ refuted = ap (λ (r : PlainReached). r.refuted) e in
    omega (arith, high, small, same)

pub limited_small : (instance : PlainInstance) (choice : Choice) → IsInternalInstance instance
    → IsLimitedChoice instance choice → refuted_by choice ≤ max_worth
limited_small instance (Greatest value numbers tokens) limits limited =
    let small = top_small instance limits in omega (arith, small, limited)
limited_small instance (Between placed numbers refuted tokens) limits limited =
    let small = top_small instance limits in omega (arith, small, limited)

-- ---- where they stay open

-- levels that are two values with others between only where the run without priced leaves ends open
abbrev IsToldOpen : Bool → PlainInstance → Settings → BoundedAnswer → Type 0
IsToldOpen proposals instance settings answer =
    suc answer.placed < answer.refuted → IsOpenWithout proposals instance settings answer.placed answer.refuted

run_open : (instance : PlainInstance) (settings : Settings) (choice : Choice)
    → IsAnswer instance settings.budget settings.scales choice
    → IsSpentExactly instance settings.budget settings.scales choice
    → IsToldOpen false instance settings (levels_told choice)
run_open instance settings (Greatest value numbers tokens) e spent = λ gap. absurd (omega (arith, gap))
run_open instance settings (Between placed numbers refuted tokens) e spent = λ gap.
    let low : (value_run instance settings.budget settings.scales).placed ≡ placed =
    ap (λ (r : PlainReached). r.placed) e in
    let high : (value_run instance settings.budget settings.scales).refuted ≡ refuted =
    ap (λ (r : PlainReached). r.refuted) e in
    record { spent = spent; lower = omega (arith, low); upper = omega (arith, high) }

proposed_open : (instance : PlainInstance) (settings : Settings) (choice : Choice)
    → AreNeighboursPastBudget instance settings.budget settings.scales choice
    → IsToldOpen true instance settings (levels_told choice)
proposed_open instance settings (Greatest value numbers tokens) past = λ gap. absurd (omega (arith, gap))
proposed_open instance settings (Between placed numbers refuted tokens) past = λ gap. record {
  low = placed;
  high = refuted;
  lower = omega arith;
  upper = omega arith;
  past_above = past.0;
  past_below = past.1;
}

pub base_levels : (instance : PlainInstance) (choice : Choice) (levels : ValueLevels)
    → plain_levels levels ≡ levels_told choice → IsTrueChoice instance choice → refuted_by choice ≤ max_worth
    → IsBoundedAnswer instance (plain_levels levels)
base_levels instance choice levels told is small =
    subst (λ (a : BoundedAnswer). IsBoundedAnswer instance a) (sym told) (told_levels instance choice is small)

module _ (instance : PlainInstance) (settings : Settings) (choice : Choice) (levels : ValueLevels)
    (told : plain_levels levels ≡ levels_told choice) where
  pub plain_base_open : IsAnswer instance settings.budget settings.scales choice
      → IsSpentExactly instance settings.budget settings.scales choice → IsOpenOnlyPast false instance settings levels
  plain_base_open e spent =
      subst (λ (a : BoundedAnswer). IsToldOpen false instance settings a) (sym told)
      (run_open instance settings choice e spent)

  pub proposed_base_open : AreNeighboursPastBudget instance settings.budget settings.scales choice
      → IsOpenOnlyPast true instance settings levels
  proposed_base_open past =
      subst (λ (a : BoundedAnswer). IsToldOpen true instance settings a) (sym told)
      (proposed_open instance settings choice past)

-- ---- levels within others

pub within_same : (levels : ValueLevels) → IsWithin levels levels
within_same levels = record { placed = omega arith; refuted = omega arith }

pub within_more : (outer middle inner : ValueLevels) → IsWithin outer middle → IsWithin middle inner
    → IsWithin outer inner
within_more outer middle inner h k =
    let a = h.placed in let b = h.refuted in let c = k.placed in let d = k.refuted in
    record { placed = omega (arith, a, c); refuted = omega (arith, b, d) }

open_within : (proposals : Bool) (instance : PlainInstance) (settings : Settings) (outer inner : ValueLevels)
    → IsWithin outer inner
    → IsOpenWithout proposals instance settings outer.placed outer.refuted
    → IsOpenWithout proposals instance settings inner.placed inner.refuted
open_within false instance settings outer inner w h =
    let a = w.placed in let b = w.refuted in let c = h.lower in let d = h.upper in
    record { spent = h.spent; lower = omega (arith, a, c); upper = omega (arith, b, d) }
open_within true instance settings outer inner w h =
    let a = w.placed in let b = w.refuted in let c = h.lower in let d = h.upper in
    record {
      low = h.low;
      high = h.high;
      lower = omega (arith, a, c);
      upper = omega (arith, b, d);
      past_above = h.past_above;
      past_below = h.past_below;
    }

pub narrowed_open : (proposals : Bool) (instance : PlainInstance) (settings : Settings) (outer inner : ValueLevels)
    → IsWithin outer inner → IsOpenOnlyPast proposals instance settings outer
    → IsOpenOnlyPast proposals instance settings inner
narrowed_open proposals instance settings outer inner w h = λ gap.
    let a = w.placed in let b = w.refuted in
    open_within proposals instance settings outer inner w (h (omega (arith, gap, a, b)))

-- the same of levels that are an answer
pub narrowed_found : {E : Type 0} (proposals : Bool) (instance : PlainInstance) (settings : Settings)
    (outer : ValueLevels) → IsOpenOnlyPast proposals instance settings outer → (r : Result ValueLevels E)
    → IfOk r (λ l. IsWithin outer l) → IfOk r (λ l. IsOpenOnlyPast proposals instance settings l)
narrowed_found proposals instance settings outer past (Ok inner) w =
    narrowed_open proposals instance settings outer inner w past
narrowed_found proposals instance settings outer past (Err e) w = tt
