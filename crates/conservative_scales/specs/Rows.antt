-- The functions of dimension 0, and what they make of the boxes.
use Rattle.std.specs.Prelude.{ℕ, ◌+◌, ◌*◌, ◌<◌, ◌≤◌, ◌≡◌, List, length, take, slice_index}
use Rattle.packing_terms.specs.declared.ScaleFn.{ScaleFn}
use Rattle.packing_terms.specs.Packing.{PlainInstance, box_count, container_side, side}
use Rattle.packing_terms.specs.Scales.{scale_image, function_at, IsLegalScale}
use Rattle.packing_terms.specs.Tuples.{functions_of}

-- for each of `count` functions a row with the image of each box
pub record AreRows (instance : PlainInstance) (count : ℕ) (fs : List ScaleFn) (images_of : List ℕ) : Type 0 where
  pub legal : (j : ℕ) → j < count → IsLegalScale (function_at fs j) (container_side instance 0)
  pub images : (j v : ℕ) → j < count → v < box_count instance
      → slice_index images_of (j * box_count instance + v)
      ≡ scale_image (function_at fs j) (container_side instance 0) (side instance v 0)

-- and these are all functions of dimension 0
pub record AreAllRows (instance : PlainInstance) (count : ℕ) (fs : List ScaleFn) (images_of : List ℕ) : Type 0 where
  pub rows : AreRows instance count fs images_of
  pub all : functions_of instance 0 ≡ take count fs
  pub few : count ≤ length fs

-- room for all functions of dimension 0 in a list of `most`, and for their rows in `places` places
pub record HasRoomForAll (instance : PlainInstance) (most places : ℕ) : Type 0 where
  pub each : 2 * box_count instance + 7 ≤ most
  pub row : most * box_count instance ≤ places
