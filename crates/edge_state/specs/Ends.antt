-- What is read off a state whose closing came to an end.
use Rattle.std.specs.Prelude.{ℕ, ◌↔◌, List, IsTrue}
use Rattle.packing_terms.specs.declared.Rel.{Rel}
use Rattle.packing_terms.specs.declared.Exclusion.{Exclusion}
use Rattle.packing_terms.specs.Packing.{PlainInstance}
use Rattle.packing_terms.specs.Exclusions.{Exclusions, excludes}
use Rattle.packing_terms.specs.Closure.{IsDerived, IsStable, HasConflict}
use Rattle.packing_terms.specs.Places.{HasNoEmptyMask}
use Rattle.edge_state.specs.States.{HasEmptyMask}

-- Exactly the closure of E is excluded, no rule adds to it, and no mask is empty: the closure has
-- no conflict.
pub record IsClosureOf (instance : PlainInstance) (E : Exclusions) (es : List Exclusion) : Type 0 where
  pub exact : (i u v : ℕ) (r : Rel) → IsTrue (excludes es i u v r) ↔ IsDerived instance E i u v r
  pub stable : IsStable instance (excludes es)
  pub full : HasNoEmptyMask instance (excludes es)
  pub none : ¬ HasConflict instance E

-- The closure of E has a conflict: only exclusions of the closure are excluded, and some mask is
-- empty.
pub record IsConflictOf (instance : PlainInstance) (E : Exclusions) (es : List Exclusion) : Type 0 where
  pub only : (i u v : ℕ) (r : Rel) → IsTrue (excludes es i u v r) → IsDerived instance E i u v r
  pub empty : HasEmptyMask instance (excludes es)
  pub conflict : HasConflict instance E
