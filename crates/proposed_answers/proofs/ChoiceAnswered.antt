-- What the answer for a value says, from the bounds that were reached.
use Rattle.std.proofs.Common.{◌≡◌, ℕ, suc, pred, ◌<◌, ◌≤◌, inl, inr, refl, sym, subst, arith, Bool, true, false, ltb}
use Rattle.std.proofs.Common.{if◌then◌else◌}
use Rattle.std.proofs.Common.{Result, Ok, Err, IfOk}
use Rattle.std.proofs.lemmas.Bool.{ltb-true}
use Rattle.packing_terms.specs.Packing.{PlainInstance}
use Rattle.packing_terms.specs.Goals.{ReachesValue}
use Rattle.packing_terms.specs.Limits.{IsInternalInstance}
use Rattle.packing_terms.specs.OuterRefutation.{IsValueRefutation, no_choice}
use Rattle.packing_terms.proofs.Internal.{internal_sides}
use Rattle.packing_terms.proofs.Neighbours.{reaches_lower, greatest_value}
use Rattle.packing_terms.proofs.ValueRefuted.{none_reaches}
use Rattle.packing_terms.proofs.Excess.{excess_law}
use Rattle.tree_terms.specs.Trees.{Verdict, Yes, No, Decided, Past, outcome}
use Rattle.tree_terms.specs.OuterTrees.{choice_tree}
use Rattle.tree_terms.specs.OuterSearch.{AreTakenNumbers, IsChoiceRight}
use Rattle.tree_terms.specs.Levels.{PlainLevel, PlainReached, level_by, first_values}
use Rattle.tree_terms.specs.RunEnds.{value_answer}
use Rattle.tree_terms.proofs.FirstLevels.{value_above, value_zero}
use Rattle.tree_terms.proofs.OuterDecisions.{choice_tree_right}
use Rattle.text_terms.specs.declared.settings.Settings.{Settings}
use Rattle.level_search.specs.declared.level.Level.{Level}
use Rattle.level_search.specs.Runs.{plain_level}
use Rattle.level_search.specs.Bounds.{PlainBounds, first_bounds, without_attempts, narrowed, levels_left, IsAsked, HasNoLevelLeft}
use Rattle.level_search.specs.Bounds.{IsClosed, AreBounds}
use Rattle.level_search.proofs.Narrowing.{are_first, step, closed}
use Rattle.bin_knapsack.specs.declared.choice.Choice.{Choice}
use Rattle.bin_knapsack.specs.declared.choice.Choice.TheVariants.{Greatest, Between}
use Rattle.bin_knapsack.specs.Choices.{IsTrueChoice}
use Rattle.proposed_answers.specs.Shares.{level_share}
use Rattle.proposed_answers.specs.Values.{top_value, value_at, value_count, ShowsLevel, RefutesLevel, IsPastLevel}
use Rattle.proposed_answers.specs.Values.{IsLevelAnswer, AreValueBounds, AreFirstBounds, TellsValues, IsLimitedChoice}
use Rattle.proposed_answers.specs.Values.{AreNeighboursPastBudget}

-- the outcome of the tree for a value, with at least the share of the budget, is the answer there
pub value_answered : (instance : PlainInstance) → IsInternalInstance instance → (settings : Settings) (level budget : ℕ)
    → level_share settings.budget ≤ budget
    → IsLevelAnswer instance settings level (value_answer instance budget settings.scales (value_at instance level))
value_answered instance limits settings level budget enough =
    go (ltb budget (value_count instance settings.scales (value_at instance level))) refl
    (outcome (choice_tree instance (value_at instance level) settings.scales))
    (choice_tree_right instance limits (value_at instance level) settings.scales)
  where
    go : (b : Bool) → ltb budget (value_count instance settings.scales (value_at instance level)) ≡ b
        → (v : Verdict) → IsChoiceRight instance (value_at instance level) no_choice v
        → IsLevelAnswer instance settings level (level_by (if b then Past else Decided v))
    go true e v h =
        let l = ltb-true budget (value_count instance settings.scales (value_at instance level)) e in
        omega (arith, enough, l)
    go false e (Yes ns c) h = h
    go false e (No ts c) h = h

-- the same of what is found there, in whatever form the value is given
pub level_answered : {E : Type 0} (instance : PlainInstance) → IsInternalInstance instance → (settings : Settings) (level budget : ℕ)
    → level_share settings.budget ≤ budget → (value : ℕ) → value ≡ value_at instance level
    → (r : Result Level E)
    → IfOk r (λ l. plain_level l ≡ value_answer instance budget settings.scales value)
    → IfOk r (λ l. IsLevelAnswer instance settings level (plain_level l))
level_answered instance limits settings level budget enough value e (Ok l) h =
    subst (λ (a : PlainLevel). IsLevelAnswer instance settings level a) (sym h)
    (subst (λ (v : ℕ). IsLevelAnswer instance settings level (value_answer instance budget settings.scales v)) (sym e)
    (value_answered instance limits settings level budget enough))
level_answered instance limits settings level budget enough value e (Err other) h = tt

-- an answer at a level that may be asked leaves bounds, and less to be asked
pub asked_step : (instance : PlainInstance) (settings : Settings) (b : PlainBounds)
    → AreValueBounds instance settings b
    → (level : ℕ) → IsAsked b level → (answer : PlainLevel) → IsLevelAnswer instance settings level answer
    → (after : PlainBounds) → after ≡ narrowed b level answer → AreValueBounds instance settings after
    × (levels_left after < levels_left b)
asked_step instance settings b are level asked answer is after e =
    let s = step (ShowsLevel instance) (RefutesLevel instance) (IsPastLevel instance settings) (top_value instance) b
    are level answer asked is in (
      subst (λ (x : PlainBounds). AreValueBounds instance settings x) (sym e) s.are,
      subst (λ (x : PlainBounds). levels_left x < levels_left b) (sym e) s.less,
    )

-- ---- bounds at the beginning

module _ (instance : PlainInstance) (limits : IsInternalInstance instance) (settings : Settings) where
  -- one more than all boxes are worth is refuted, and 0 is reached
  pub start_bounds : (r : PlainReached) → r ≡ first_values instance
      → AreValueBounds instance settings (first_bounds 0 r.tokens r.refuted r.numbers)
  start_bounds r e =
      subst (λ (x : PlainReached). AreValueBounds instance settings
      (first_bounds 0 x.tokens x.refuted x.numbers)) (sym e)
      (are_first (ShowsLevel instance) (RefutesLevel instance) (IsPastLevel instance settings) (top_value instance)
      0 (top_value instance) (first_values instance).tokens (first_values instance).numbers
      (omega arith) (omega arith)
      (subst (λ (k : ℕ). IsValueRefutation instance k (first_values instance).tokens) whole
      (value_above instance limits))
      (subst (λ (k : ℕ). AreTakenNumbers instance k (first_values instance).numbers) none (value_zero instance limits)))
    where
      whole : top_value instance ≡ value_at instance 0
      whole = omega arith

      none : (first_values instance).placed ≡ value_at instance (top_value instance)
      none = omega arith

-- the same two levels, of which no other is known to be past the budget
pub bounds_forgotten : (instance : PlainInstance) (Spent : ℕ → Type 0) (b : PlainBounds)
    → AreBounds (ShowsLevel instance) (RefutesLevel instance) Spent (top_value instance) b
    → AreFirstBounds instance (without_attempts b)
bounds_forgotten instance Spent b h =
    are_first (ShowsLevel instance) (RefutesLevel instance) (λ level. Unit {0}) (top_value instance)
    b.refuted b.placed b.tokens b.numbers h.order h.within h.denied h.shown

pub bounds_afresh : (instance : PlainInstance) (Spent : ℕ → Type 0) (settings : Settings) (b : PlainBounds)
    → AreBounds (ShowsLevel instance) (RefutesLevel instance) Spent (top_value instance) b
    → AreValueBounds instance settings (without_attempts b)
bounds_afresh instance Spent settings b h =
    are_first (ShowsLevel instance) (RefutesLevel instance) (IsPastLevel instance settings) (top_value instance)
    b.refuted b.placed b.tokens b.numbers h.order h.within h.denied h.shown

-- ---- what the bounds that were reached show

module _ (instance : PlainInstance) (limits : IsInternalInstance instance) (settings : Settings) (b : PlainBounds)
    (are : AreValueBounds instance settings b) (narrow : HasNoLevelLeft b) where
  refuted_unreached : ¬ ReachesValue instance (value_at instance b.refuted)
  refuted_unreached = none_reaches excess_law instance (internal_sides instance limits) (value_at instance b.refuted)
      b.tokens are.denied

  placed_reached : ReachesValue instance (value_at instance b.placed)
  placed_reached = let shown = are.shown in (shown.taken, shown.set, shown.reached, (shown.places, shown.packing))

  pub bounds_true : (c : Choice) → TellsValues instance b c → IsTrueChoice instance c
  bounds_true (Greatest value numbers tokens) t =
      let w = are.within in
      let beside = t.beside in
      let e = t.value_is in
      let above : value_at instance b.refuted ≡ suc value = omega (arith, beside, e, w) in
      record {
        greatest = greatest_value instance value (subst (ReachesValue instance) (sym e) placed_reached)
            (subst (λ (t : ℕ). ¬ ReachesValue instance t) above refuted_unreached);
        packed = rw (t.value_is, t.numbers_are) are.shown;
        refuted = rw (t.tokens_are, sym above) are.denied;
      }
  bounds_true (Between placed numbers refuted tokens) t =
      let o = t.apart in
      let w = are.within in
      let e = t.placed_is in
      let f = t.refuted_is in
      record {
        order = omega (arith, o, w, e, f);
        none_reaches = (λ y l reached. refuted_unreached
            (reaches_lower instance (value_at instance b.refuted) y (omega (arith, l, f)) reached));
        packed = rw (t.placed_is, t.numbers_are) are.shown;
        refutes = rw (t.refuted_is, t.tokens_are) are.denied;
      }

  pub bounds_limited : (c : Choice) → TellsValues instance b c → IsLimitedChoice instance c
  bounds_limited (Greatest value numbers tokens) t =
      let o = are.order in
      let w = are.within in
      let e = t.value_is in
      omega (arith, o, w, e)
  bounds_limited (Between placed numbers refuted tokens) t = let f = t.refuted_is in omega (arith, f)

  pub bounds_past : (c : Choice) → TellsValues instance b c → AreNeighboursPastBudget instance settings.budget settings.scales c
  bounds_past (Greatest value numbers tokens) t = tt
  bounds_past (Between placed numbers refuted tokens) t =
      go (closed (ShowsLevel instance) (RefutesLevel instance) (IsPastLevel instance settings) (top_value instance)
      b are narrow)
    where
      above : value_at instance (pred b.placed) ≡ suc placed
      above = let o = t.apart in let w = are.within in let e = t.placed_is in omega (arith, o, w, e)

      below_refuted : value_at instance (suc b.refuted) ≡ pred refuted
      below_refuted = let f = t.refuted_is in omega (arith, f)

      go : IsClosed (IsPastLevel instance settings) b
          → (level_share settings.budget < value_count instance settings.scales (suc placed))
          × (level_share settings.budget < value_count instance settings.scales (pred refuted))
      go (inl n) = let a = t.apart in absurd (omega (arith, n, a))
      go (inr p) = (
        subst (λ (k : ℕ). level_share settings.budget < value_count instance settings.scales k) above p.1,
        subst (λ (k : ℕ). level_share settings.budget < value_count instance settings.scales k) below_refuted p.0,
      )
