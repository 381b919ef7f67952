-- What the searches of places find.
use Rattle.std.specs.Prelude.{ℕ, ◌+◌, ◌<◌, List}
use Rattle.packing_terms.specs.Packing.{PlainInstance, dims, box_count, kerf, written_container, written_side, place}
use Rattle.packing_terms.specs.Packing.{AreApart}
use Rattle.verdict_terms.specs.Tested.{LiesWithin}

-- the first dimension in which the box leaves the container
pub record LeavesFirst (instance : PlainInstance) (places : List ℕ) (v i : ℕ) : Type 0 where
  pub there : i < dims instance
  pub leaves : written_container instance i < place instance places v i + written_side instance v i
  pub before : (j : ℕ) → j < i → LiesWithin instance places v j

-- in each dimension the boxes are nearer to each other than the kerf
abbrev pub AreCrossing : PlainInstance → List ℕ → ℕ → ℕ → Type 0
AreCrossing instance places u v = (i : ℕ) → i < dims instance
    → (place instance places v i < place instance places u i + written_side instance u i + kerf instance i)
    × (place instance places u i < place instance places v i + written_side instance v i + kerf instance i)

-- no later box overlaps the box
abbrev pub NoneCrosses : PlainInstance → List ℕ → ℕ → Type 0
NoneCrosses instance places u = (v : ℕ) → u < v → v < box_count instance → AreApart instance places u v

-- the first later box that overlaps the box
pub record CrossesFirst (instance : PlainInstance) (places : List ℕ) (u v : ℕ) : Type 0 where
  pub rising : u < v
  pub there : v < box_count instance
  pub crossing : AreCrossing instance places u v
  pub before : (y : ℕ) → u < y → y < v → AreApart instance places u y
