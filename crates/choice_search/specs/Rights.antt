-- What an outcome under a budget is worth.
use Rattle.packing_terms.specs.Goals.{ReachesValue}
use Rattle.packing_terms.specs.OuterRefutation.{Choice}
use Rattle.tree_terms.specs.Trees.{PlainOutcome, Decided, Past, Yes, No}
use Rattle.tree_terms.specs.OuterSearch.{IsChoiceRight}
use Rattle.choice_search.specs.Choices.{PlainChoiceTree}

-- a yes has a set of the value that fits, and a no refutes the node with these boxes in and these
-- out
abbrev pub IsRight : PlainChoiceTree → Choice → PlainOutcome → Type 0
IsRight t c (Decided v) = IsChoiceRight t.instance t.goal c v
IsRight t c Past = Unit {0}

-- a yes comes only where the instance reaches the value, and a no only where it doesn't
abbrev pub Decides : PlainChoiceTree → PlainOutcome → Type 0
Decides t (Decided (Yes numbers count)) = ReachesValue t.instance t.goal
Decides t (Decided (No tokens count)) = ¬ ReachesValue t.instance t.goal
Decides t Past = Unit {0}
