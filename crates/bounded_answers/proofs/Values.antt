-- Levels that are narrowed stay levels.
use Rattle.std.proofs.Common.{◌≡◌, ℕ, arith, List}
use Rattle.packing_terms.specs.Packing.{PlainInstance}
use Rattle.packing_terms.specs.Goals.{worth}
use Rattle.tree_terms.specs.OuterTrees.{choice_numbers}
use Rattle.tree_terms.specs.OuterSearch.{AreTakenNumbers}
use Rattle.proposed_answers.specs.Values.{IsChoice}

-- the numbers of boxes that pass their test are those of boxes that fit
pub choice_taken : (instance : PlainInstance) (taken places numbers : List ℕ) (value : ℕ)
    → IsChoice instance taken places → value ≡ worth instance taken → numbers ≡ choice_numbers instance taken places
    → AreTakenNumbers instance value numbers
choice_taken instance taken places numbers value is e written = record {
  taken = taken;
  places = places;
  set = is.set;
  reached = omega (arith, e);
  packing = is.packing;
  written = written;
}
