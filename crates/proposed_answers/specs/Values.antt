-- Bounds of the greatest value, and what is answered for a value by proposals first.
--
-- value    0           placed      refuted      top     A value is seen as the level that it lies
-- below the top, which is one
-- level    top         placed      refuted       0      more than all boxes are worth: so the
-- refuted level is the lower one
use Rattle.std.specs.Prelude.{ℕ, suc, pred, ◌-◌, ◌<◌, ◌≤◌, ◌≡◌, Bool, List}
use Rattle.packing_terms.specs.Packing.{PlainInstance, IsPacking}
use Rattle.packing_terms.specs.Goals.{subset, IsBoxSet}
use Rattle.packing_terms.specs.OuterRefutation.{IsValueRefutation}
use Rattle.packing_terms.specs.Tokens.{PlainToken}
use Rattle.tree_terms.specs.Trees.{outcome, count_of}
use Rattle.tree_terms.specs.OuterTrees.{choice_tree}
use Rattle.tree_terms.specs.OuterSearch.{AreTakenNumbers}
use Rattle.tree_terms.specs.Levels.{PlainLevel, first_values}
use Rattle.text_terms.specs.declared.settings.Settings.{Settings}
use Rattle.proposed_answers.specs.Shares.{level_share}
use Rattle.level_search.specs.Bounds.{PlainBounds, IsRightAnswer, AreBounds}
use Rattle.bin_knapsack.specs.declared.choice.Choice.{Choice}
use Rattle.bin_knapsack.specs.declared.choice.Choice.TheVariants.{Greatest, Between}

-- boxes by rising number, with the coordinates of a packing of them
pub record IsChoice (instance : PlainInstance) (taken places : List ℕ) : Type 0 where
  pub set : IsBoxSet instance taken
  pub packing : IsPacking (subset instance taken) places

-- one more than all boxes are worth
abbrev pub top_value : PlainInstance → ℕ
top_value instance = (first_values instance).refuted

-- the value that is seen as a level
abbrev pub value_at : PlainInstance → ℕ → ℕ
value_at instance level = top_value instance - level

-- the count of branchings of the choice tree for a value
abbrev pub value_count : PlainInstance → Bool → ℕ → ℕ
value_count instance scales t = count_of (outcome (choice_tree instance t scales))

-- the numbers show a level, or the tokens refute it
abbrev pub ShowsLevel : PlainInstance → ℕ → List ℕ → Type 0
ShowsLevel instance level numbers = AreTakenNumbers instance (value_at instance level) numbers

abbrev pub RefutesLevel : PlainInstance → ℕ → List PlainToken → Type 0
RefutesLevel instance level tokens = IsValueRefutation instance (value_at instance level) tokens

-- what is known of a level that was left open: that the tree of its value has more branchings than the
-- share of the budget
abbrev pub IsPastLevel : PlainInstance → Settings → ℕ → Type 0
IsPastLevel instance settings level =
    level_share settings.budget < value_count instance settings.scales (value_at instance level)

-- the answer at a level
abbrev pub IsLevelAnswer : PlainInstance → Settings → ℕ → PlainLevel → Type 0
IsLevelAnswer instance settings =
    IsRightAnswer (ShowsLevel instance) (RefutesLevel instance) (IsPastLevel instance settings)

-- bounds of the greatest value
abbrev pub AreValueBounds : PlainInstance → Settings → PlainBounds → Type 0
AreValueBounds instance settings =
    AreBounds (ShowsLevel instance) (RefutesLevel instance) (IsPastLevel instance settings) (top_value instance)

-- bounds like these, without a claim about what was left undecided
abbrev pub AreFirstBounds : PlainInstance → PlainBounds → Type 0
AreFirstBounds instance = AreBounds (ShowsLevel instance) (RefutesLevel instance) (λ level. Unit {0})
    (top_value instance)

-- the answer states these bounds
pub record TellsGreatest (instance : PlainInstance) (b : PlainBounds) (value : ℕ) (numbers : List ℕ)
    (tokens : List PlainToken) : Type 0 where
  pub beside : suc b.refuted ≡ b.placed
  pub value_is : value ≡ value_at instance b.placed
  pub numbers_are : numbers ≡ b.numbers
  pub tokens_are : tokens ≡ b.tokens

pub record TellsBetween (instance : PlainInstance) (b : PlainBounds) (placed : ℕ) (numbers : List ℕ) (refuted : ℕ)
    (tokens : List PlainToken) : Type 0 where
  pub apart : suc b.refuted < b.placed
  pub placed_is : placed ≡ value_at instance b.placed
  pub numbers_are : numbers ≡ b.numbers
  pub refuted_is : refuted ≡ value_at instance b.refuted
  pub tokens_are : tokens ≡ b.tokens

abbrev pub TellsValues : PlainInstance → PlainBounds → Choice → Type 0
TellsValues instance b (Greatest value numbers tokens) =
    TellsGreatest instance b value numbers.items tokens
TellsValues instance b (Between placed numbers refuted tokens) =
    TellsBetween instance b placed numbers.items refuted tokens

-- the value that is given as refuted is at most one more than all boxes are worth
abbrev pub IsLimitedChoice : PlainInstance → Choice → Type 0
IsLimitedChoice instance (Greatest value numbers tokens) = value < top_value instance
IsLimitedChoice instance (Between placed numbers refuted tokens) = refuted ≤ top_value instance

-- `Between` only where the choice trees of the value above the placed one and of the value below the
-- refuted one have more branchings than the share of the budget
abbrev pub AreNeighboursPastBudget : PlainInstance → ℕ → Bool → Choice → Type 0
AreNeighboursPastBudget instance budget scales (Greatest value numbers tokens) = Unit {0}
AreNeighboursPastBudget instance budget scales (Between placed numbers refuted tokens) =
    (level_share budget < value_count instance scales (suc placed))
    × (level_share budget < value_count instance scales (pred refuted))
