-- Where a run of levels ends: which levels it decides, and what its two levels are then.
use Rattle.std.specs.Prelude.{ℕ, suc, ◌<◌, ◌≤◌, ◌≡◌, ◌⊎◌, Bool, false, []}
use Rattle.packing_terms.specs.Packing.{PlainInstance}
use Rattle.packing_terms.specs.Goals.{with_last_side}
use Rattle.tree_terms.specs.Trees.{outcome, under_budget, count_of}
use Rattle.tree_terms.specs.ClassTree.{class_tree}
use Rattle.tree_terms.specs.OuterTrees.{bin_tree, choice_tree}
use Rattle.tree_terms.specs.Levels.{PlainLevel, PlacedBy, RefutedBy, SpentAt, PlainReached, halfway, moved, is_run_over}
use Rattle.tree_terms.specs.Levels.{level_by, first_heights, first_bins, first_values}

-- the level is decided on the run from these two levels
pub data IsLevelDecided (answer : ℕ → PlainLevel) : PlainReached → ℕ → Type 0 where
  here : {r : PlainReached} → is_run_over r ≡ false → IsLevelDecided answer r (halfway r)
  later : {r : PlainReached} {level : ℕ} → is_run_over r ≡ false
      → IsLevelDecided answer (moved r (halfway r) (answer (halfway r))) level → IsLevelDecided answer r level

-- a decision on the run was spent
abbrev pub HasSpentDecision : (ℕ → PlainLevel) → PlainReached → Type 0
HasSpentDecision answer r = (level : ℕ) × IsLevelDecided answer r level × (answer level ≡ SpentAt)

-- each of the two levels is the first one, or was decided on the run and has what its decision gave
pub record IsFromRun (answer : ℕ → PlainLevel) (first r : PlainReached) : Type 0 where
  pub refuted : ((r.refuted ≡ first.refuted) × (r.tokens ≡ first.tokens))
      ⊎ (IsLevelDecided answer first r.refuted × (answer r.refuted ≡ RefutedBy r.tokens))
  pub placed : ((r.placed ≡ first.placed) × (r.numbers ≡ first.numbers))
      ⊎ (IsLevelDecided answer first r.placed × (answer r.placed ≡ PlacedBy r.numbers))

-- The end of a run whose refuted level is below the placed one. The order stays, both stay within
-- the first two, and where no decision was spent they are neighbours.
pub record IsRisingEnd (first r : PlainReached) : Type 0 where
  pub order : r.refuted < r.placed
  pub low : first.refuted ≤ r.refuted
  pub high : r.placed ≤ first.placed
  pub beside : r.spent ≡ false → suc r.refuted ≡ r.placed

-- the same where the placed level is below
pub record IsFallingEnd (first r : PlainReached) : Type 0 where
  pub order : r.placed < r.refuted
  pub low : first.placed ≤ r.placed
  pub high : r.refuted ≤ first.refuted
  pub beside : r.spent ≡ false → suc r.placed ≡ r.refuted

-- the answer at a height, under a budget
abbrev pub height_answer : PlainInstance → ℕ → Bool → ℕ → PlainLevel
height_answer instance budget scales h =
    level_by (under_budget budget (outcome (class_tree (with_last_side instance h) [] scales)))

-- the answer for a number of bins, under a budget
abbrev pub bin_answer : PlainInstance → ℕ → Bool → ℕ → PlainLevel
bin_answer instance budget scales k = level_by (under_budget budget (outcome (bin_tree instance k scales)))

-- the answer for a value, under a budget
abbrev pub value_answer : PlainInstance → ℕ → Bool → ℕ → PlainLevel
value_answer instance budget scales t = level_by (under_budget budget (outcome (choice_tree instance t scales)))

-- some level that the run decides has a tree whose count is past the budget
abbrev pub HasLevelPastBudget : (ℕ → PlainLevel) → PlainReached → ℕ → (ℕ → ℕ) → Type 0
HasLevelPastBudget answer first budget count = (level : ℕ) × IsLevelDecided answer first level × (budget < count level)

-- some height that a strip decides has more branchings than the budget
abbrev pub HasHeightPastBudget : PlainInstance → ℕ → Bool → Type 0
HasHeightPastBudget instance budget scales =
    HasLevelPastBudget (height_answer instance budget scales) (first_heights instance) budget
    (λ h. count_of (outcome (class_tree (with_last_side instance h) [] scales)))

-- some number of bins that is decided has more branchings than the budget
abbrev pub HasBinCountPastBudget : PlainInstance → ℕ → Bool → Type 0
HasBinCountPastBudget instance budget scales =
    HasLevelPastBudget (bin_answer instance budget scales) (first_bins instance scales) budget
    (λ k. count_of (outcome (bin_tree instance k scales)))

-- some value that a knapsack decides has more branchings than the budget
abbrev pub HasValuePastBudget : PlainInstance → ℕ → Bool → Type 0
HasValuePastBudget instance budget scales =
    HasLevelPastBudget (value_answer instance budget scales) (first_values instance) budget
    (λ t. count_of (outcome (choice_tree instance t scales)))
