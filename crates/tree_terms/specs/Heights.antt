-- The run of heights of a strip whose trees all begin with the same exclusions.
use Rattle.std.specs.Prelude.{ℕ, List, Bool}
use Rattle.packing_terms.specs.declared.Exclusion.{Exclusion}
use Rattle.packing_terms.specs.Packing.{PlainInstance, Fits}
use Rattle.packing_terms.specs.Exclusions.{AreAtEdges}
use Rattle.packing_terms.specs.Goals.{with_last_side}
use Rattle.packing_terms.specs.Tokens.{PlainToken}
use Rattle.packing_terms.specs.Refutation.{Refutes}
use Rattle.packing_terms.specs.Facts.{symmetry_facts}
use Rattle.tree_terms.specs.Trees.{outcome, under_budget, count_of}
use Rattle.tree_terms.specs.ClassTree.{class_tree}
use Rattle.tree_terms.specs.Levels.{PlainLevel, PlainReached, level_by, bisect_levels, first_heights}
use Rattle.tree_terms.specs.RunEnds.{HasLevelPastBudget}

-- the answer at a height, under a budget
abbrev pub height_answer_from : List Exclusion → PlainInstance → ℕ → Bool → ℕ → PlainLevel
height_answer_from start instance budget scales h =
    level_by (under_budget budget (outcome (class_tree (with_last_side instance h) start scales)))

-- the run from the first heights on; from no exclusion it is `height_run`
abbrev pub height_run_from : List Exclusion → PlainInstance → ℕ → Bool → PlainReached
height_run_from start instance budget scales =
    bisect_levels (height_answer_from start instance budget scales) (first_heights instance)

-- some height on the run has more branchings than the budget
abbrev pub HasHeightPastBudgetFrom : List Exclusion → PlainInstance → ℕ → Bool → Type 0
HasHeightPastBudgetFrom start instance budget scales =
    HasLevelPastBudget (height_answer_from start instance budget scales) (first_heights instance) budget
    (λ h. count_of (outcome (class_tree (with_last_side instance h) start scales)))

-- the run whose trees begin with the symmetry facts of the instance, which are those of all heights
abbrev pub reduced_height_run : PlainInstance → ℕ → Bool → PlainReached
reduced_height_run instance budget scales = height_run_from (symmetry_facts instance) instance budget scales

-- The exclusions decide heights: they are at edges that are there, and where a height is refuted
-- under them, the boxes don't fit.
pub record DecideHeights (instance : PlainInstance) (start : List Exclusion) : Type 0 where
  pub edges : (h : ℕ) → AreAtEdges (with_last_side instance h) start
  pub refuted : (h : ℕ) (tokens : List PlainToken) → Refutes (with_last_side instance h) start tokens
      → ¬ Fits (with_last_side instance h)
