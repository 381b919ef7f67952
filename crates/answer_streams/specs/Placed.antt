-- A yes has a number for each box and dimension.
use Rattle.std.specs.Prelude.{◌≡◌, ◌*◌, length}
use Rattle.packing_terms.specs.Packing.{PlainInstance, dims, box_count}
use Rattle.tree_terms.specs.Trees.{PlainOutcome, Decided, Past, Yes, No}

abbrev pub IsPlaced : PlainInstance → PlainOutcome → Type 0
IsPlaced instance (Decided (Yes numbers count)) = length numbers ≡ box_count instance * dims instance
IsPlaced instance (Decided (No tokens count)) = Unit {0}
IsPlaced instance Past = Unit {0}
