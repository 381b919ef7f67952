-- The list of tuples by the functions that may still differ from id.
use Rattle.std.specs.Prelude.{ℕ, zero, suc, ◌+◌, ◌<◌, length, List, [], ◌∷◌, ◌++◌, Option, Some, None}
use Rattle.std.specs.List.{flat_map}
use Rattle.packing_terms.specs.Packing.{PlainInstance, container_side}
use Rattle.packing_terms.specs.Scales.{IsLegalScale, function_at}
use Rattle.packing_terms.specs.declared.ScaleFn.{ScaleFn}
use Rattle.packing_terms.specs.declared.ScaleFn.TheVariants.{Id}
use Rattle.packing_terms.specs.Tuples.{functions_after}

-- the choices for the dimensions below `i` with at most `left` functions other than id, before the
-- given functions
abbrev pub within : PlainInstance → ℕ → ℕ → List ScaleFn → List (List ScaleFn)
within instance zero left rest = rest ∷ []
within instance (suc i) zero rest = within instance i zero (Id ∷ rest)
within instance (suc i) (suc left) rest =
    within instance i (suc left) (Id ∷ rest) ++ flat_map (λ f. within instance i left (f ∷ rest))
    (functions_after instance i Id)

-- each of the functions before the given ones
abbrev pub before_each : List ScaleFn → List ScaleFn → List (List ScaleFn)
before_each fs rest = flat_map (λ f. (f ∷ rest) ∷ []) fs

-- the functions that are left, from the next one on
abbrev pub from_next : PlainInstance → ℕ → Option ScaleFn → List ScaleFn
from_next instance i None = []
from_next instance i (Some f) = f ∷ functions_after instance i f

-- legal functions for the dimensions from i on
abbrev pub AreLegalFrom : PlainInstance → ℕ → List ScaleFn → Type 0
AreLegalFrom instance i rest = (j : ℕ) → j < length rest
    → IsLegalScale (function_at rest j) (container_side instance (i + j))
