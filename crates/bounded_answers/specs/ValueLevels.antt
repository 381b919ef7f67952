-- A placed and a refuted value as they are held, and what is promised of them.
use Rattle.std.specs.Prelude.{ℕ, suc, pred, ◌<◌, ◌≤◌, Bool, true, false, List, map}
use Rattle.packing_terms.specs.Packing.{PlainInstance}
use Rattle.text_terms.specs.declared.settings.Settings.{Settings}
use Rattle.tree_terms.specs.Levels.{PlainReached, value_run}
use Rattle.tree_terms.specs.OuterSearch.{AreTakenNumbers}
use Rattle.tree_terms.specs.RunEnds.{HasValuePastBudget}
use Rattle.verdict_terms.specs.BoundedRefutation.{BoundedToken as PlainBounded, Plain as PlainPlain, IsBoundedRefutation}
use Rattle.bounded_tokens.specs.declared.token.BoundedToken.{BoundedToken}
use Rattle.bounded_tokens.specs.Plain.{plain_bounded_tokens}
use Rattle.answer_terms.specs.BoundedAnswers.{BoundedAnswer, IsBoundedAnswer, HaveParameters}
use Rattle.bin_knapsack.specs.declared.choice.Choice.{Choice}
use Rattle.bin_knapsack.specs.declared.choice.Choice.TheVariants.{Greatest, Between}
use Rattle.proposed_answers.specs.Shares.{level_share}
use Rattle.proposed_answers.specs.Values.{value_count}
use Rattle.bounded_answers.specs.declared.asking.GoalOutcome.{GoalOutcome}
use Rattle.bounded_answers.specs.declared.asking.GoalOutcome.TheVariants.{Refuted, Placed, Open}
use Rattle.bounded_answers.specs.declared.value_levels.ValueLevels.{ValueLevels}
use Rattle.bounded_answers.specs.declared.value_levels.ValueProof.{ValueProof}
use Rattle.bounded_answers.specs.declared.value_levels.ValueProof.TheVariants.{Plain, Priced}
use Rattle.bounded_answers.specs.declared.placed_values.PlacedValue.{PlacedValue}

-- the tokens of a refutation
abbrev pub plain_proof : ValueProof → List PlainBounded
plain_proof (Plain tokens) = map (λ t. PlainPlain t) tokens
plain_proof (Priced tokens) = plain_bounded_tokens tokens.items

abbrev pub plain_levels : ValueLevels → BoundedAnswer
plain_levels levels = record {
  placed = levels.placed;
  numbers = levels.numbers.items;
  refuted = levels.refuted;
  tokens = plain_proof levels.proof;
}

-- the numbers reach the placed value, and the tokens refute the greater one
abbrev pub AreLevels : PlainInstance → ValueLevels → Type 0
AreLevels instance levels = IsBoundedAnswer instance (plain_levels levels)

-- the inner levels lie within the outer ones
pub record IsWithin (outer inner : ValueLevels) : Type 0 where
  pub placed : outer.placed ≤ inner.placed
  pub refuted : inner.refuted ≤ outer.refuted

-- ---- what comes of a goal

-- the numbers are those of boxes that fit and are worth so much
abbrev pub IsPlacedValue : PlainInstance → PlacedValue → Type 0
IsPlacedValue instance found = AreTakenNumbers instance found.worth found.numbers.items

-- the tokens refute the value, with weights that a line can say
pub record AreRefutedBy (instance : PlainInstance) (goal : ℕ) (tokens : List BoundedToken) : Type 0 where
  pub refutation : IsBoundedRefutation instance goal (plain_bounded_tokens tokens)
  pub parameters : HaveParameters (plain_bounded_tokens tokens)

abbrev pub IsGoalOutcome : PlainInstance → ℕ → GoalOutcome → Type 0
IsGoalOutcome instance goal (Refuted tokens) = AreRefutedBy instance goal tokens.items
IsGoalOutcome instance goal (Placed found) = IsPlacedValue instance found
IsGoalOutcome instance goal (Open worth) = Unit {0}

-- ---- the levels of the run without priced leaves

abbrev pub refuted_by : Choice → ℕ
refuted_by (Greatest value numbers tokens) = suc value
refuted_by (Between placed numbers refuted tokens) = refuted

abbrev pub levels_told : Choice → BoundedAnswer
levels_told (Greatest value numbers tokens) = record {
  placed = value;
  numbers = numbers.items;
  refuted = suc value;
  tokens = map (λ t. PlainPlain t) tokens;
}
levels_told (Between placed numbers refuted tokens) = record {
  placed = placed;
  numbers = numbers.items;
  refuted = refuted;
  tokens = map (λ t. PlainPlain t) tokens;
}

-- the levels of a run
abbrev pub reached_levels : PlainReached → BoundedAnswer
reached_levels r = record {
  placed = r.placed;
  numbers = r.numbers;
  refuted = r.refuted;
  tokens = map (λ t. PlainPlain t) r.tokens;
}

-- The run of choice trees without priced leaves ends open: some value that it decides has a tree with more
-- branchings than the budget. The two values lie within its levels.
pub record IsOpenRun (instance : PlainInstance) (settings : Settings) (placed refuted : ℕ) : Type 0 where
  pub spent : HasValuePastBudget instance settings.budget settings.scales
  pub lower : (value_run instance settings.budget settings.scales).placed ≤ placed
  pub upper : refuted ≤ (value_run instance settings.budget settings.scales).refuted

-- The two values lie within two others, such that the choice trees of the value above the lower one and of
-- the value below the upper one have more branchings than the share of the budget. No definition names the
-- run with proposals, so it isn't said that it ends with these.
pub record IsOpenProposed (instance : PlainInstance) (settings : Settings) (placed refuted : ℕ) : Type 0 where
  pub low : ℕ
  pub high : ℕ
  pub lower : low ≤ placed
  pub upper : refuted ≤ high
  pub past_above : level_share settings.budget < value_count instance settings.scales (suc low)
  pub past_below : level_share settings.budget < value_count instance settings.scales (pred high)

-- the run without priced leaves ends open, without proposals or with them, and the two values lie within
-- its levels
abbrev pub IsOpenWithout : Bool → PlainInstance → Settings → ℕ → ℕ → Type 0
IsOpenWithout false instance settings placed refuted = IsOpenRun instance settings placed refuted
IsOpenWithout true instance settings placed refuted = IsOpenProposed instance settings placed refuted

-- the levels are two values with others between only where that run's are
abbrev pub IsOpenOnlyPast : Bool → PlainInstance → Settings → ValueLevels → Type 0
IsOpenOnlyPast proposals instance settings levels =
    suc levels.placed < levels.refuted → IsOpenWithout proposals instance settings levels.placed levels.refuted
