-- Passes over CHAIN with weights of chains.
use Rattle.std.specs.Prelude.{ℕ, ◌+◌, ◌≡◌, ◌≢◌, ◌<◌, List, slice_index, IsTrue}
use Rattle.packing_terms.specs.declared.Exclusion.{Exclusion}
use Rattle.packing_terms.specs.declared.Rel.TheVariants.{Before}
use Rattle.packing_terms.specs.Packing.{PlainInstance, container_side}
use Rattle.packing_terms.specs.Exclusions.{excludes}
use Rattle.packing_terms.specs.Applied.{Extends}
use Rattle.edge_state.specs.Edges.{PlainEdges}

-- a pass let the state grow by what follows, and then something is done
pub record IsPass (instance : PlainInstance) (old new : PlainEdges) (Done : List Exclusion → Type 0) : Type 0 where
  pub same_dims : new.dims ≡ old.dims
  pub same_boxes : new.boxes ≡ old.boxes
  pub same_box_capacity : new.room ≡ old.room
  pub extends : Extends instance old.trail new.trail
  pub done : Done new.trail

-- where a chain that ends in u and one that starts in v are together longer than the container's
-- side, u isn't before v
pub record IsChainChecked (instance : PlainInstance) (i : ℕ) (head tail : List ℕ) (u v : ℕ) (es : List Exclusion) : Type 0 where
  pub shut : u ≢ v → container_side instance i < slice_index head u + slice_index tail v
      → IsTrue (excludes es i u v Before)
