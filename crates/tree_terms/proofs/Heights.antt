-- The run of heights from exclusions that decide them.
use Rattle.std.proofs.Common.{◌≡◌, ℕ, suc, ◌+◌, ◌-◌, ◌*◌, ◌/◌, ◌^◌, ◌<◌, ◌≤◌, ◌⊎◌, ◌↔◌, inl, inr, refl, sym, subst}
use Rattle.std.proofs.Common.{arith, Bool, true, false, if◌then◌else◌, ltb, List, [], IsTrue}
use Rattle.std.proofs.lemmas.Bool.{cases_Bool}
use Rattle.packing_terms.specs.declared.Exclusion.{Exclusion}
use Rattle.packing_terms.specs.Packing.{PlainInstance, IsPacking, Fits, HasPositiveSides, dims, box_count}
use Rattle.packing_terms.specs.Exclusions.{AreAtEdges}
use Rattle.packing_terms.specs.Goals.{with_last_side, HasTooWideBox, IsLeastHeight}
use Rattle.packing_terms.specs.Limits.{IsInternalInstance, max_height}
use Rattle.packing_terms.specs.Tokens.{PlainToken}
use Rattle.packing_terms.specs.Refutation.{Refutes, by_side}
use Rattle.packing_terms.proofs.Internal.{internal_sides, some_dimension}
use Rattle.packing_terms.proofs.Neighbours.{least_height}
use Rattle.packing_terms.proofs.Refuted.{none_fits}
use Rattle.packing_terms.proofs.Excess.{excess_law}
use Rattle.packing_terms.specs.Facts.{symmetry_facts}
use Rattle.packing_terms.proofs.Levels.{same_dims, level_facts, none_fits_at}
use Rattle.packing_terms.proofs.SymmetryMembers.{facts_at_edges}
use Rattle.tree_terms.specs.Trees.{Verdict, Yes, No, Decided, Past, outcome, count_of}
use Rattle.tree_terms.specs.ClassTree.{class_tree}
use Rattle.tree_terms.specs.Search.{IsRightUnder, IsYesVerdict}
use Rattle.tree_terms.specs.Levels.{PlainLevel, PlainReached, level_by, IsLevelBetween, IsRightLevel}
use Rattle.tree_terms.specs.Levels.{HasBothCertificates, first_heights}
use Rattle.tree_terms.specs.RunEnds.{HasSpentDecision, IsRisingEnd}
use Rattle.tree_terms.proofs.Counts.{class_count}
use Rattle.tree_terms.proofs.Decisions.{class_tree_right}
use Rattle.tree_terms.proofs.FirstLevels.{height_zero, stack_packs}
use Rattle.tree_terms.proofs.LevelOrder.{rising_end, spent_exactly}
use Rattle.tree_terms.proofs.Optima.{internal_at, stack_small}
use Rattle.tree_terms.proofs.Runs.{run_right}
use Rattle.tree_terms.proofs.SpentRuns.{height_end, spent_level}
use Rattle.tree_terms.specs.Heights.{height_answer_from, height_run_from, HasHeightPastBudgetFrom, DecideHeights}

module _ (instance : PlainInstance) (limits : IsInternalInstance instance) where
  sides_at : (h : ℕ) → HasPositiveSides (with_last_side instance h)
  sides_at h v i l m = internal_sides instance limits v i l (let e = same_dims instance h in omega (arith, m, e))

  pub none_decides : DecideHeights instance []
  none_decides = record {
    edges = λ h. tt;
    refuted = λ h tokens refutes. none_fits excess_law (with_last_side instance h) (sides_at h) tokens refutes;
  }

  pub facts_decide : DecideHeights instance (symmetry_facts instance)
  facts_decide = record {
    edges = λ h. subst (λ (es : List Exclusion). AreAtEdges (with_last_side instance h) es) (level_facts instance h)
        (facts_at_edges (with_last_side instance h)
        (let e = same_dims instance h in let d = some_dimension instance limits in omega (arith, e, d)));
    refuted = λ h tokens refutes. none_fits_at instance h (sides_at h) (some_dimension instance limits) tokens refutes;
  }

-- a height that is an instance
module _ (instance : PlainInstance) (h : ℕ) (limits : IsInternalInstance (with_last_side instance h))
    (scales : Bool) where
  some_dims : 1 ≤ dims instance
  some_dims = let e = same_dims instance h in let d = some_dimension (with_last_side instance h) limits in
      omega (arith, e, d)

  pub reduced_right : IsRightUnder (with_last_side instance h) (symmetry_facts instance)
      (outcome (class_tree (with_last_side instance h) (symmetry_facts instance) scales))
  reduced_right =
      class_tree_right (with_last_side instance h) limits (symmetry_facts instance)
      (subst (λ (es : List Exclusion). AreAtEdges (with_last_side instance h) es) (level_facts instance h)
      (facts_at_edges (with_last_side instance h) (some_dimension (with_last_side instance h) limits))) scales

  pub reduced_yes : Fits (with_last_side instance h) ↔ IsYesVerdict
      (outcome (class_tree (with_last_side instance h) (symmetry_facts instance) scales))
  reduced_yes = (
    there (outcome (class_tree (with_last_side instance h) (symmetry_facts instance) scales))
        reduced_right,
    back (outcome (class_tree (with_last_side instance h) (symmetry_facts instance) scales))
        reduced_right,
  )
    where
      there : (v : Verdict) → IsRightUnder (with_last_side instance h) (symmetry_facts instance) v
          → Fits (with_last_side instance h) → IsYesVerdict v
      there (Yes places count) right fits = tt
      there (No tokens count) right fits =
          none_fits_at instance h (internal_sides (with_last_side instance h) limits) some_dims tokens right fits

      back : (v : Verdict) → IsRightUnder (with_last_side instance h) (symmetry_facts instance) v → IsYesVerdict v
          → Fits (with_last_side instance h)
      back (Yes places count) right is_yes = (places, right)
      back (No tokens count) right is_yes = absurd is_yes

-- the outcome of the tree at a height
module _ (instance : PlainInstance) (start : List Exclusion) (budget : ℕ) (scales : Bool) where
  abbrev answers : ℕ → PlainLevel
  answers = height_answer_from start instance budget scales

  pub spent_from : IsTrue (height_run_from start instance budget scales).spent ↔ HasHeightPastBudgetFrom start instance
      budget scales
  spent_from = (
    λ h. there ((spent_exactly answers (first_heights instance) refl).0 h),
    λ h. (spent_exactly answers (first_heights instance) refl).1 (back h),
  )
    where
      there : HasSpentDecision answers (first_heights instance) → HasHeightPastBudgetFrom start instance budget scales
      there (level, d, e) = (
        level,
        d,
        (spent_level budget (outcome (class_tree (with_last_side instance level) start scales))).0 e,
      )

      back : HasHeightPastBudgetFrom start instance budget scales → HasSpentDecision answers (first_heights instance)
      back (level, d, l) = (
        level,
        d,
        (spent_level budget (outcome (class_tree (with_last_side instance level) start scales))).1 l,
      )

  module _ (limits : IsInternalInstance instance) where
    pub end_from : IsRisingEnd (first_heights instance) (height_run_from start instance budget scales)
    end_from = rising_end answers (first_heights instance)
        (let e = height_end instance limits 0 false in let a = e.order in let b = e.low in let c = e.high in
        omega (arith, a, b, c))

    few : (h : ℕ) → count_of (outcome (class_tree (with_last_side instance h) start scales)) < 3 ^
        (dims instance * box_count instance * (box_count instance - 1) / 2)
    few h =
        let same = same_dims instance h in
        let d = some_dimension instance limits in
        subst (λ (x : ℕ). count_of (outcome (class_tree (with_last_side instance h) start scales)) < 3 ^
        (x * box_count instance * (box_count instance - 1) / 2)) same
        (class_count (with_last_side instance h) (omega (arith, d, same)) start scales)

    pub enough_from : 3 ^ (dims instance * box_count instance * (box_count instance - 1) / 2) ≤ budget + 1
        → (height_run_from start instance budget scales).spent ≡ false
    enough_from bound = go (cases_Bool (height_run_from start instance budget scales).spent)
      where
        none : HasHeightPastBudgetFrom start instance budget scales → ⊥
        none (level, d, l) = let f = few level in omega (arith, f, bound, l)

        go : ((height_run_from start instance budget scales).spent ≡ true)
            ⊎ ((height_run_from start instance budget scales).spent ≡ false)
            → (height_run_from start instance budget scales).spent ≡ false
        go (inl k) = absurd (none (spent_from.0 k))
        go (inr k) = k

-- ---- what the run keeps

module _ (instance : PlainInstance) (limits : IsInternalInstance instance) (start : List Exclusion) where
  pub zero_from : Refutes (with_last_side instance 0) start (first_heights instance).tokens
  zero_from = go (height_zero instance limits)
    where
      go : Refutes (with_last_side instance 0) [] (first_heights instance).tokens
          → Refutes (with_last_side instance 0) start (first_heights instance).tokens
      go (by_side h) = by_side h

module _ (instance : PlainInstance) (limits : IsInternalInstance instance) (start : List Exclusion)
    (decide : DecideHeights instance start) (narrow : ¬ HasTooWideBox instance)
    (budget : ℕ) (scales : Bool) where
  abbrev Shows : ℕ → List ℕ → Type 0
  Shows h ns = IsPacking (with_last_side instance h) ns

  abbrev Denies : ℕ → List PlainToken → Type 0
  Denies h ts = Refutes (with_last_side instance h) start ts

  right_at : (h : ℕ) → h ≤ max_height → IsRightLevel Shows Denies h (height_answer_from start instance budget scales h)
  right_at h l =
      go (ltb budget (count_of (outcome (class_tree (with_last_side instance h) start scales))))
      (outcome (class_tree (with_last_side instance h) start scales))
      (class_tree_right (with_last_side instance h) (internal_at instance limits h l) start (decide.edges h) scales)
    where
      go : (b : Bool) (v : Verdict) → IsRightUnder (with_last_side instance h) start v
          → IsRightLevel Shows Denies h (level_by (if b then Past else Decided v))
      go true v k = tt
      go false (Yes ns c) k = k
      go false (No ts c) k = k

  pub keeps_from : HasBothCertificates Shows Denies (height_run_from start instance budget scales)
  keeps_from =
      run_right Shows Denies (height_answer_from start instance budget scales) (first_heights instance)
      (λ m b. right_at m (below b)) (zero_from instance limits start) (stack_packs instance limits narrow)
    where
      below : {m : ℕ} → IsLevelBetween (first_heights instance) m → m ≤ max_height
      below (inl (x, y)) = let s = stack_small instance limits in omega (arith, y, s)
      below (inr (x, y)) = absurd (omega (arith, y))

  pub least_from : (height_run_from start instance budget scales).spent ≡ false
      → IsLeastHeight instance (height_run_from start instance budget scales).placed
  least_from unspent = go (height_run_from start instance budget scales)
      (end_from instance start budget scales limits).beside keeps_from unspent
    where
      go : (r : PlainReached) → (r.spent ≡ false → suc r.refuted ≡ r.placed) → HasBothCertificates Shows Denies r
          → r.spent ≡ false → IsLeastHeight instance r.placed
      go r beside keeps u =
          let e = beside u in
          subst (λ (h : ℕ). IsLeastHeight instance h) e
          (least_height instance r.refuted
          (subst (λ (h : ℕ). Fits (with_last_side instance h)) (sym e) (r.numbers, keeps.1))
          (decide.refuted r.refuted r.tokens keeps.0))
