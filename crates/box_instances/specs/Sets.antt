-- Sets of boxes that are instances of their own.
use Rattle.std.specs.Prelude.{ℕ, ◌+◌, ◌<◌, ◌≤◌, ◌≡◌, List, [], length, slice_index_or}
use Rattle.std.specs.List.{range_with_len}
use Rattle.packing_terms.specs.Packing.{PlainInstance, box_count}
use Rattle.packing_terms.specs.Goals.{subset, IsBoxSet}

-- all boxes of an instance
abbrev pub all_boxes : PlainInstance → List ℕ
all_boxes instance = range_with_len 0 (box_count instance)

-- an instance, and the numbers of the boxes of the set
pub record PlainBoxSet : Type 0 where
  pub whole : PlainInstance
  pub keep : List ℕ

-- what is read past the end of a list of instances
abbrev pub no_instance : PlainInstance
no_instance = record { container = []; kerfs = []; boxes = [] }

-- an instance with `count` boxes and the container and kerfs of another
pub record IsPart (whole : PlainInstance) (count : ℕ) (part : PlainInstance) : Type 0 where
  pub same_count : box_count part ≡ count
  pub container : part.container ≡ whole.container
  pub kerfs : part.kerfs ≡ whole.kerfs

-- one for each number of boxes
pub record AreParts (whole : PlainInstance) (sets : List PlainInstance) : Type 0 where
  pub many : length sets ≡ box_count whole
  pub each : (at : ℕ) → at < length sets → IsPart whole (at + 1) (slice_index_or sets at no_instance)

-- for each number of boxes the instance of the first ones
pub record AreFirstSets (whole : PlainInstance) (count : ℕ) (sets : List PlainInstance) : Type 0 where
  pub many : length sets ≡ count
  pub each : (at : ℕ) → at < count → slice_index_or sets at no_instance ≡ subset whole (range_with_len 0 (at + 1))

-- what the type keeps: the boxes are a set, and the instance of their number has them
pub record IsHeldSet (whole : PlainInstance) (keep : List ℕ) (sets : List PlainInstance) (capacity : ℕ) : Type 0 where
  pub some : 1 ≤ length keep
  pub set : IsBoxSet whole keep
  pub room : box_count whole ≤ capacity
  pub parts : AreParts whole sets
  pub shown : (at : ℕ) → at + 1 ≡ length keep → slice_index_or sets at no_instance ≡ subset whole keep
