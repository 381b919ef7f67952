-- A run is spent exactly where it decides a level whose tree has a count past the budget; so a
-- budget that bounds the counts is always enough, and
-- there is a least height and a least number of bins exactly where no box is too large.
use Rattle.std.proofs.Common.{◌≡◌, ℕ, zero, suc, ◌+◌, ◌-◌, ◌*◌, ◌/◌, ◌^◌, ◌<◌, ◌≤◌, ◌⊎◌, ◌↔◌, inl, inr, refl, sym, ap}
use Rattle.std.proofs.Common.{subst, ◌∙◌, arith, Bool, true, false, IsTrue, []}
use Rattle.std.proofs.Math.ListN.{length-set}
use Rattle.std.proofs.Math.Nat.{pow-le-pow_left}
use Rattle.std.proofs.lemmas.Bool.{cases_Bool, cases_lt}
use Rattle.packing_terms.specs.Packing.{PlainInstance, dims, box_count}
use Rattle.packing_terms.specs.Limits.{IsInternalInstance}
use Rattle.packing_terms.specs.Sums.{sum_below}
use Rattle.packing_terms.specs.Goals.{with_last_side, HasTooWideBox, HasTooLargeBox, IsLeastHeight, IsLeastBins}
use Rattle.packing_terms.specs.ExcessLaw.{ExcessLaw}
use Rattle.packing_terms.proofs.Internal.{internal_sides, some_dimension, some_box}
use Rattle.packing_terms.proofs.TooLarge.{too_wide, too_large}
use Rattle.tree_terms.specs.Trees.{Verdict, Yes, No, Decided, outcome, under_budget, count_of}
use Rattle.tree_terms.specs.ClassTree.{class_tree}
use Rattle.tree_terms.specs.OuterTrees.{bin_tree, choice_tree}
use Rattle.tree_terms.specs.Levels.{PlainLevel, SpentAt, PlainReached, bisect_levels, level_by, last_side, first_heights}
use Rattle.tree_terms.specs.Levels.{height_run, first_bins, bin_run, first_values, value_run, IsLevelBetween}
use Rattle.tree_terms.specs.RunEnds.{HasSpentDecision, IsRisingEnd, IsFallingEnd, height_answer, bin_answer}
use Rattle.tree_terms.specs.RunEnds.{value_answer, HasLevelPastBudget}
use Rattle.tree_terms.proofs.UnderBudget.{over_budget, within_budget}
use Rattle.tree_terms.proofs.Counts.{class_count, times_le}
use Rattle.tree_terms.proofs.OuterCounts.{bin_count}
use Rattle.tree_terms.proofs.ChoiceCounts.{choice_count}
use Rattle.tree_terms.proofs.LevelOrder.{rising_end, falling_end, asked_between, spent_exactly}
use Rattle.tree_terms.proofs.Optima.{height_optimum, bins_optimum}
use Rattle.tree_terms.proofs.FirstFound.{some_large, some_wide}

-- a verdict is spent exactly where its count is past the budget
never_spent : (v : Verdict) → level_by (Decided v) ≡ SpentAt → ⊥
never_spent (Yes ns c) k = cc
never_spent (No ts c) k = cc

pub spent_level : (budget : ℕ) (v : Verdict) → level_by (under_budget budget v) ≡ SpentAt ↔ (budget < count_of v)
spent_level budget v = (there, λ l. ap level_by (over_budget budget v l))
  where
    there : level_by (under_budget budget v) ≡ SpentAt → budget < count_of v
    there e = go (cases_lt budget (count_of v))
      where
        go : (budget < count_of v) ⊎ (count_of v ≤ budget) → budget < count_of v
        go (inl l) = l
        go (inr l) = absurd (never_spent v (sym (ap level_by (within_budget budget v l)) ∙ e))

module _ (tree : ℕ → Verdict) (budget : ℕ) (first : PlainReached) (fresh : first.spent ≡ false) where
  abbrev answers : ℕ → PlainLevel
  answers level = level_by (under_budget budget (tree level))

  spent_large : IsTrue (bisect_levels answers first).spent ↔ HasLevelPastBudget answers first budget
      (λ level. count_of (tree level))
  spent_large = (
    λ h. there ((spent_exactly answers first fresh).0 h),
    λ h. (spent_exactly answers first fresh).1 (back h),
  )
    where
      there : HasSpentDecision answers first → HasLevelPastBudget answers first budget (λ level. count_of (tree level))
      there (level, d, e) = (level, d, (spent_level budget (tree level)).0 e)

      back : HasLevelPastBudget answers first budget (λ level. count_of (tree level)) → HasSpentDecision answers first
      back (level, d, l) = (level, d, (spent_level budget (tree level)).1 l)

  -- a budget that bounds the counts of all levels between is enough
  enough : ((level : ℕ) → IsLevelBetween first level → count_of (tree level) ≤ budget)
      → (bisect_levels answers first).spent ≡ false
  enough bound = go (cases_Bool (bisect_levels answers first).spent)
    where
      none : HasLevelPastBudget answers first budget (λ level. count_of (tree level)) → ⊥
      none (level, d, l) = let b = bound level (asked_between answers d) in omega (arith, b, l)

      go : ((bisect_levels answers first).spent ≡ true) ⊎ ((bisect_levels answers first).spent ≡ false)
          → (bisect_levels answers first).spent ≡ false
      go (inl k) = absurd (none (spent_large.0 k))
      go (inr k) = k

-- sums of powers grow with their base
more_powers : (j k n : ℕ) → j ≤ k → sum_below n (λ i. j ^ (i + 1)) ≤ sum_below n (λ i. k ^ (i + 1))
more_powers j k zero l = omega arith
more_powers j k (suc n) l = let a = more_powers j k n l in let b = pow-le-pow_left l (n + 1) in omega (arith, a, b)

-- a sum of numbers of at least 1 is at least 1
some_sum : (f : ℕ → ℕ) (n : ℕ) → 1 ≤ n → 1 ≤ f (n - 1) → 1 ≤ sum_below n f
some_sum f zero l h = absurd (omega (arith, l))
some_sum f (suc n) l h = let e : suc n - 1 ≡ n = omega arith in let g = ap f e in omega (arith, h, g)

module _ (instance : PlainInstance) (budget : ℕ) (scales : Bool) where
  pub height_spent : IsTrue (height_run instance budget scales).spent
      ↔ HasLevelPastBudget (height_answer instance budget scales) (first_heights instance) budget
      (λ h. count_of (outcome (class_tree (with_last_side instance h) [] scales)))
  height_spent = spent_large (λ h. outcome (class_tree (with_last_side instance h) [] scales)) budget
      (first_heights instance) refl

  pub bins_spent : IsTrue (bin_run instance budget scales).spent
      ↔ HasLevelPastBudget (bin_answer instance budget scales) (first_bins instance scales) budget
      (λ k. count_of (outcome (bin_tree instance k scales)))
  bins_spent = spent_large (λ k. outcome (bin_tree instance k scales)) budget (first_bins instance scales) refl

  pub value_spent : IsTrue (value_run instance budget scales).spent
      ↔ HasLevelPastBudget (value_answer instance budget scales) (first_values instance) budget
      (λ t. count_of (outcome (choice_tree instance t scales)))
  value_spent = spent_large (λ t. outcome (choice_tree instance t scales)) budget (first_values instance) refl

  pub value_end : IsFallingEnd (first_values instance) (value_run instance budget scales)
  value_end = falling_end (value_answer instance budget scales) (first_values instance) (omega arith)

module _ (instance : PlainInstance) (limits : IsInternalInstance instance) (budget : ℕ) (scales : Bool) where
  abbrev class_bound : ℕ
  class_bound = 3 ^ (dims instance * box_count instance * (box_count instance - 1) / 2)

  height_few : (h : ℕ) → count_of (outcome (class_tree (with_last_side instance h) [] scales)) < class_bound
  height_few h =
      let same : dims (with_last_side instance h) ≡ dims instance =
      length-set instance.container (dims instance - 1) h in
      let d = some_dimension instance limits in
      subst (λ (x : ℕ). count_of (outcome (class_tree (with_last_side instance h) [] scales)) < 3 ^
      (x * box_count instance * (box_count instance - 1) / 2)) same
      (class_count (with_last_side instance h) (omega (arith, d, same)) [] scales)

  pub height_enough : class_bound ≤ budget + 1 → (height_run instance budget scales).spent ≡ false
  height_enough l = enough (λ h. outcome (class_tree (with_last_side instance h) [] scales)) budget
      (first_heights instance) refl
      (λ h b. let f = height_few h in omega (arith, f, l))

  pub bins_enough : class_bound * sum_below (box_count instance) (λ j. (box_count instance - 1) ^ (j + 1)) ≤ budget
      → (bin_run instance budget scales).spent ≡ false
  bins_enough l = enough (λ k. outcome (bin_tree instance k scales)) budget (first_bins instance scales) refl bound
    where
      bound : (k : ℕ) → IsLevelBetween (first_bins instance scales) k
          → count_of (outcome (bin_tree instance k scales)) ≤ budget
      bound k b =
          let c = bin_count instance (internal_sides instance limits) (some_dimension instance limits) scales k in
          let m = times_le class_bound (sum_below (box_count instance) (λ j. k ^ (j + 1))) class_bound
          (sum_below (box_count instance) (λ j. (box_count instance - 1) ^ (j + 1)))
          (omega arith) (more_powers k (box_count instance - 1) (box_count instance) (within b)) in
          omega (arith, c, m, l)
        where
          within : IsLevelBetween (first_bins instance scales) k → k ≤ box_count instance - 1
          within (inl (x, y)) = omega (arith, y)
          within (inr (x, y)) = absurd (omega (arith, y))

  pub value_enough : class_bound * (2 ^ (box_count instance + 1) - 2) ≤ budget
      → (value_run instance budget scales).spent ≡ false
  value_enough l = enough (λ t. outcome (choice_tree instance t scales)) budget (first_values instance) refl
      (λ t b. let c = choice_count instance (internal_sides instance limits) (some_dimension instance limits) scales
      t in omega (arith, c, l))

  -- where the runs end
  pub height_end : IsRisingEnd (first_heights instance) (height_run instance budget scales)
  height_end = rising_end (height_answer instance budget scales) (first_heights instance)
      (some_sum (λ v. last_side instance v) (box_count instance) (some_box instance limits)
      (let n = some_box instance limits in let d = some_dimension instance limits in
      let s = internal_sides instance limits (box_count instance - 1) (dims instance - 1) (omega (arith, n))
      (omega (arith, d)) in omega (arith, s)))

  pub bins_end : IsRisingEnd (first_bins instance scales) (bin_run instance budget scales)
  bins_end = rising_end (bin_answer instance budget scales) (first_bins instance scales) (some_box instance limits)

module _ (instance : PlainInstance) (limits : IsInternalInstance instance) (law : ExcessLaw) where
  some_height : ¬ HasTooWideBox instance → (h : ℕ) × IsLeastHeight instance h
  some_height narrow =
      let budget : ℕ = 3 ^ (dims instance * box_count instance * (box_count instance - 1) / 2) in (
        (height_run instance budget true).placed,
        height_optimum instance limits law narrow budget true
            (height_enough instance limits budget true (omega arith)),
      )

  some_bins : ¬ HasTooLargeBox instance → (k : ℕ) × IsLeastBins instance k
  some_bins small =
      let budget : ℕ = 3 ^ (dims instance * box_count instance * (box_count instance - 1) / 2)
      * sum_below (box_count instance) (λ j. (box_count instance - 1) ^ (j + 1)) in (
        (bin_run instance budget true).placed,
        bins_optimum instance limits law small budget true (bins_enough instance limits budget true (omega arith)),
      )

  pub height_exactly : ((h : ℕ) × IsLeastHeight instance h) ↔ (¬ HasTooWideBox instance)
  height_exactly = ((λ (h, least) wide. too_wide instance h wide least.fits), some_height)

  pub bins_exactly : ((k : ℕ) × IsLeastBins instance k) ↔ (¬ HasTooLargeBox instance)
  bins_exactly = ((λ (k, least) large. too_large instance k large least.fits), some_bins)

  pub no_height_exactly : (¬ ((h : ℕ) × IsLeastHeight instance h)) ↔ HasTooWideBox instance
  no_height_exactly = (λ none. go none (some_wide instance), λ wide some. height_exactly.0 some wide)
    where
      go : (¬ ((h : ℕ) × IsLeastHeight instance h)) → HasTooWideBox instance ⊎ (¬ HasTooWideBox instance)
          → HasTooWideBox instance
      go none (inl h) = h
      go none (inr h) = absurd (none (some_height h))

  pub no_bins_exactly : (¬ ((k : ℕ) × IsLeastBins instance k)) ↔ HasTooLargeBox instance
  no_bins_exactly = (λ none. go none (some_large instance), λ large some. bins_exactly.0 some large)
    where
      go : (¬ ((k : ℕ) × IsLeastBins instance k)) → HasTooLargeBox instance ⊎ (¬ HasTooLargeBox instance)
          → HasTooLargeBox instance
      go none (inl h) = h
      go none (inr h) = absurd (none (some_bins h))
