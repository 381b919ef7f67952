-- What is answered for a value, and what it says.
use Rattle.std.specs.Prelude.{ℕ, suc, ◌<◌, ◌≤◌, ◌≡◌, Bool, true, false, List}
use Rattle.packing_terms.specs.Packing.{PlainInstance}
use Rattle.packing_terms.specs.Goals.{ReachesValue, IsGreatestValue}
use Rattle.packing_terms.specs.OuterRefutation.{IsValueRefutation}
use Rattle.packing_terms.specs.Tokens.{PlainToken}
use Rattle.tree_terms.specs.OuterSearch.{AreTakenNumbers}
use Rattle.tree_terms.specs.Levels.{PlainReached, value_run}
use Rattle.tree_terms.specs.RunEnds.{HasValuePastBudget}
use Rattle.bin_knapsack.specs.declared.choice.Choice.{Choice}
use Rattle.bin_knapsack.specs.declared.choice.Choice.TheVariants.{Greatest, Between}

-- the answer states where a run of values ended
abbrev pub Tells : PlainReached → Choice → Type 0
Tells r (Greatest value numbers tokens) =
    r ≡ record {
      refuted = suc value;
      tokens = tokens;
      placed = value;
      numbers = numbers.items;
      spent = false;
    }
Tells r (Between placed numbers refuted tokens) =
    r ≡ record {
      refuted = refuted;
      tokens = tokens;
      placed = placed;
      numbers = numbers.items;
      spent = true;
    }

-- the answer is that of the definition: where the run of values ended
abbrev pub IsAnswer : PlainInstance → ℕ → Bool → Choice → Type 0
IsAnswer instance budget scales choice = Tells (value_run instance budget scales) choice

-- the greatest value, with both certificates
pub record IsCertifiedGreatest (instance : PlainInstance) (value : ℕ) (numbers : List ℕ) (tokens : List PlainToken) :
    Type 0 where
  pub greatest : IsGreatestValue instance value
  pub packed : AreTakenNumbers instance value numbers
  pub refuted : IsValueRefutation instance (suc value) tokens

-- no set of boxes that fits is worth as much as the refuted value or more, and one is worth the
-- placed value, with both certificates
pub record IsCertifiedBetween (instance : PlainInstance) (placed : ℕ) (numbers : List ℕ) (refuted : ℕ)
    (tokens : List PlainToken) : Type 0 where
  pub order : placed < refuted
  pub none_reaches : (t : ℕ) → refuted ≤ t → ¬ ReachesValue instance t
  pub packed : AreTakenNumbers instance placed numbers
  pub refutes : IsValueRefutation instance refuted tokens

-- what the answer says is true
abbrev pub IsTrueChoice : PlainInstance → Choice → Type 0
IsTrueChoice instance (Greatest value numbers tokens) =
    IsCertifiedGreatest instance value numbers.items tokens
IsTrueChoice instance (Between placed numbers refuted tokens) =
    IsCertifiedBetween instance placed numbers.items refuted tokens

-- `Between` exactly where some value on the run has more branchings than the budget
abbrev pub IsSpentExactly : PlainInstance → ℕ → Bool → Choice → Type 0
IsSpentExactly instance budget scales (Greatest value numbers tokens) = ¬ HasValuePastBudget instance budget scales
IsSpentExactly instance budget scales (Between placed numbers refuted tokens) = HasValuePastBudget instance budget scales

-- the answer isn't `Between`
abbrev pub IsFinal : Choice → Type 0
IsFinal (Greatest value numbers tokens) = Unit {0}
IsFinal (Between placed numbers refuted tokens) = ⊥
