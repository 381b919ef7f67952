-- What closing a state comes to.
use Rattle.std.specs.Prelude.{ℕ, List}
use Rattle.packing_terms.specs.declared.Exclusion.{Exclusion}
use Rattle.packing_terms.specs.Packing.{PlainInstance}
use Rattle.packing_terms.specs.Exclusions.{excludes}
use Rattle.edge_state.specs.Ends.{IsClosureOf, IsConflictOf}
use Rattle.rule_closure.specs.declared.closer.Closed.{Closed}
use Rattle.rule_closure.specs.declared.closer.Closed.TheVariants.{Stable, Conflict}

-- the sizes that a closer has room for
pub record PlainCloser : Type 0 where
  pub dims : ℕ
  pub boxes : ℕ

-- exactly the closure of the old exclusions is excluded, no rule adds to it, and no mask is empty:
-- the closure has no conflict
abbrev pub IsClosure : PlainInstance → List Exclusion → List Exclusion → Type 0
IsClosure instance old new = IsClosureOf instance (excludes old) new

-- the closure has a conflict: only exclusions of the closure are excluded, and some mask is empty
abbrev pub IsInConflict : PlainInstance → List Exclusion → List Exclusion → Type 0
IsInConflict instance old new = IsConflictOf instance (excludes old) new

-- what the answer says
abbrev pub IsClosed : PlainInstance → List Exclusion → List Exclusion → Closed → Type 0
IsClosed instance old new Stable = IsClosure instance old new
IsClosed instance old new Conflict = IsInConflict instance old new
