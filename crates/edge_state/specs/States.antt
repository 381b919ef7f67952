-- States of an instance's sizes, and whether a mask of theirs is empty.
use Rattle.std.specs.Prelude.{ℕ, ◌≡◌, ◌<◌, false, IsTrue}
use Rattle.packing_terms.specs.declared.Rel.{Rel}
use Rattle.packing_terms.specs.Packing.{PlainInstance, dims, box_count}
use Rattle.packing_terms.specs.Exclusions.{Exclusions, IsEdge}
use Rattle.edge_state.specs.Edges.{PlainEdges}

-- state and instance have the same sizes, and the dimension is there
pub record IsSized (instance : PlainInstance) (s : PlainEdges) (i : ℕ) : Type 0 where
  pub same_dims : s.dims ≡ dims instance
  pub same_boxes : s.boxes ≡ box_count instance
  pub there : i < dims instance

-- some mask is empty
pub record HasEmptyMask (instance : PlainInstance) (X : Exclusions) : Type 0 where
  pub dim : ℕ
  pub u : ℕ
  pub v : ℕ
  pub edge : IsEdge instance dim u v
  pub each : (r : Rel) → IsTrue (X dim u v r)

-- the mask of the pair has a relation, if it is one
pub record HasRelationLeft (instance : PlainInstance) (X : Exclusions) (i u v : ℕ) : Type 0 where
  pub some : IsEdge instance i u v → (r : Rel) × (X i u v r ≡ false)
