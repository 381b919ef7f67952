-- What a closing came to.
use Rattle.std.specs.Prelude.{List, Bool, true, false}
use Rattle.packing_terms.specs.declared.Exclusion.{Exclusion}
use Rattle.packing_terms.specs.Packing.{PlainInstance}
use Rattle.packing_terms.specs.Exclusions.{Exclusions}
use Rattle.edge_state.specs.Ends.{IsClosureOf, IsConflictOf}

-- the closure of E has a conflict where the flag is true, and else the list is exactly that closure
abbrev pub IsEnded : PlainInstance → Exclusions → List Exclusion → Bool → Type 0
IsEnded instance E es true = IsConflictOf instance E es
IsEnded instance E es false = IsClosureOf instance E es
