-- What is asked for beside fitting: the least height of a strip, the least number of bins, the
-- greatest value of a knapsack.
--
--     strip: the last side is free      bins: as few as possible       knapsack: a set of boxes of the greatest value
--       |        |                        +------+  +------+              +------+
--       |__  ____|                        |__|___|  |___|  |              |__|___|   left out: ..
--       |  ||    |                        |  |   |  |   |  |              |  |   |
--       +--++----+                        +--+---+  +---+--+              +--+---+
use Rattle.std.specs.Prelude.{ℕ, ◌+◌, ◌-◌, ◌*◌, ◌<◌, ◌≤◌, ◌≡◌, ◌==◌, List, length, map, slice_index, slice_index_or}
use Rattle.std.specs.Prelude.{slice_set, sum_by}
use Rattle.std.specs.List.Sorted.{IsStrictlyIncreasing}
use Rattle.std.specs.List.{filter, flat_map, range_with_len, All}
use Rattle.packing_terms.specs.Packing.{PlainInstance, no_box, dims, box_count, container_side, side, place, IsPacking}
use Rattle.packing_terms.specs.Packing.{Fits}

-- the instance with another last container side
abbrev pub with_last_side : PlainInstance → ℕ → PlainInstance
with_last_side instance h = record instance { container = slice_set instance.container (dims instance - 1) h }

-- the instance of the named boxes, in the order of the list, with the same container
abbrev pub subset : PlainInstance → List ℕ → PlainInstance
subset instance keep = record instance { boxes = map (λ v. slice_index_or instance.boxes v no_box) keep }

-- The least height: the least last container side, from 1 on, at which the instance fits. There is
-- none exactly where a box is too wide.
pub record IsLeastHeight (instance : PlainInstance) (h : ℕ) : Type 0 where
  pub from : 1 ≤ h
  pub fits : Fits (with_last_side instance h)
  pub least : (g : ℕ) → 1 ≤ g → Fits (with_last_side instance g) → h ≤ g

-- some box exceeds the container in a dimension other than the last
pub record HasTooWideBox (instance : PlainInstance) : Type 0 where
  pub box_no : ℕ
  pub dim : ℕ
  pub there : box_no < box_count instance
  pub not_last : dim + 1 < dims instance
  pub large : container_side instance dim < side instance box_no dim

-- the boxes of a bin, by rising number
abbrev pub in_bin : List ℕ → ℕ → List ℕ
in_bin bins b = filter (λ v. slice_index bins v == b) (range_with_len 0 (length bins))

-- the coordinates of the named boxes
abbrev pub places_of : PlainInstance → List ℕ → List ℕ → List ℕ
places_of instance places keep =
    flat_map (λ v. map (λ i. place instance places v i) (range_with_len 0 (dims instance))) keep

-- a bin below k for each box, and one coordinate for each box and dimension, such that the boxes of
-- each bin with their coordinates are a packing
pub record IsBinPacking (instance : PlainInstance) (k : ℕ) (bins places : List ℕ) : Type 0 where
  pub count : length bins ≡ box_count instance
  pub placed : length places ≡ box_count instance * dims instance
  pub numbers : All (λ b. b < k) bins
  pub packed : (b : ℕ) → b < k → IsPacking (subset instance (in_bin bins b)) (places_of instance places (in_bin bins b))

-- the instance fits in k bins
abbrev pub FitsInBins : PlainInstance → ℕ → Type 0
FitsInBins instance k = (bins : List ℕ) × (places : List ℕ) × IsBinPacking instance k bins places

-- The least number of bins in which the instance fits. There is none exactly where a box exceeds
-- the container.
pub record IsLeastBins (instance : PlainInstance) (k : ℕ) : Type 0 where
  pub fits : FitsInBins instance k
  pub least : (j : ℕ) → FitsInBins instance j → k ≤ j

-- some box exceeds the container
pub record HasTooLargeBox (instance : PlainInstance) : Type 0 where
  pub box_no : ℕ
  pub dim : ℕ
  pub there : box_no < box_count instance
  pub in_range : dim < dims instance
  pub large : container_side instance dim < side instance box_no dim

-- a set of boxes, by rising number
pub record IsBoxSet (instance : PlainInstance) (keep : List ℕ) : Type 0 where
  pub there : All (λ v. v < box_count instance) keep
  pub rising : IsStrictlyIncreasing keep

-- the total value of the named boxes
abbrev pub worth : PlainInstance → List ℕ → ℕ
worth instance keep = sum_by (λ v. (slice_index_or instance.boxes v no_box).value) keep

-- some set of boxes has a total value of at least t, and fits
abbrev pub ReachesValue : PlainInstance → ℕ → Type 0
ReachesValue instance t = (keep : List ℕ) × IsBoxSet instance keep × (t ≤ worth instance keep)
    × Fits (subset instance keep)

-- the greatest value that the instance reaches
pub record IsGreatestValue (instance : PlainInstance) (t : ℕ) : Type 0 where
  pub reached : ReachesValue instance t
  pub greatest : (y : ℕ) → ReachesValue instance y → y ≤ t
