-- Boxes in several equal containers.
use Rattle.std.specs.Prelude.{ℕ, ◌+◌, ◌<◌, ◌≤◌, ◌≡◌, List, slice_index}
use Rattle.packing_terms.specs.Packing.{PlainInstance, dims, box_count, container_side, side, place, AreDisjoint}

-- a container below c for each box, and coordinates; boxes of one container are apart
pub record IsSharedPacking (instance : PlainInstance) (c : ℕ) (bins places : List ℕ) : Type 0 where
  pub numbers : (v : ℕ) → v < box_count instance → slice_index bins v < c
  pub inside : (v i : ℕ) → v < box_count instance → i < dims instance
      → place instance places v i + side instance v i ≤ container_side instance i
  pub disjoint : (u v : ℕ) → u < v → v < box_count instance → slice_index bins u ≡ slice_index bins v
      → AreDisjoint instance places u v

abbrev pub FitsIn : PlainInstance → ℕ → Type 0
FitsIn instance c = (bins : List ℕ) × (places : List ℕ) × IsSharedPacking instance c bins places
