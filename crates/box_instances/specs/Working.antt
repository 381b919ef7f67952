-- Working sides that an instance holds beside what is written.
use Rattle.std.specs.Prelude.{ℕ, ◌<◌, ◌≤◌, ◌≡◌, List, [], length, slice_index, slice_index_or}
use Rattle.packing_terms.specs.Packing.{PlainInstance, dims, box_count, side, container_side}
use Rattle.packing_terms.specs.Limits.{max_boxes, IsInternalInstance}

-- what the type keeps: it is within the limits, its working sides stand in their places, and no box
-- is longer in a dimension than `longest` states
pub record IsHeld (instance : PlainInstance) (limits : List ℕ) (working : List (List ℕ)) (longest : List ℕ) :
    Type 0 where
  pub within : IsInternalInstance instance
  pub room : length working ≡ max_boxes
  pub container : (i : ℕ) → i < dims instance → slice_index limits i ≡ container_side instance i
  pub sides : (v i : ℕ) → v < box_count instance → i < dims instance
      → slice_index (slice_index_or working v []) i ≡ side instance v i
  pub bound : (v i : ℕ) → v < box_count instance → i < dims instance → side instance v i ≤ slice_index longest i
