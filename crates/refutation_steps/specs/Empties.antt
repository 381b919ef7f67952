-- Places where all three relations are excluded.
use Rattle.std.specs.Prelude.{ℕ, ◌≡◌, ◌<◌, false, IsTrue}
use Rattle.packing_terms.specs.declared.Rel.{Rel}
use Rattle.packing_terms.specs.Exclusions.{Exclusions, excludes}
use Rattle.edge_state.specs.Edges.{PlainEdges}
use Rattle.refutation_steps.specs.declared.empties.Place.{Place}

-- some relation is left there
abbrev pub IsLeft : Exclusions → ℕ → ℕ → ℕ → Type 0
IsLeft X i u v = (r : Rel) × (X i u v r ≡ false)

-- none is
abbrev pub IsEmptyAt : Exclusions → ℕ → ℕ → ℕ → Type 0
IsEmptyAt X i u v = (r : Rel) → IsTrue (X i u v r)

-- a place of the state with the lower box first, where none is
pub record IsEmptyPlace (s : PlainEdges) (p : Place) : Type 0 where
  pub dim : p.dim < s.dims
  pub rising : p.u < p.v
  pub second : p.v < s.boxes
  pub each : IsEmptyAt (excludes s.trail) p.dim p.u p.v
