-- What the verdict on places says.
use Rattle.std.specs.Prelude.{ℕ, ◌+◌, ◌<◌, ◌≤◌, List}
use Rattle.packing_terms.specs.Packing.{PlainInstance, dims, box_count, written_container, written_side, place}
use Rattle.packing_terms.specs.Packing.{IsPacking, AreApart}
use Rattle.verdict_terms.specs.declared.check_answers.PlaceVerdict.{PlaceVerdict}
use Rattle.verdict_terms.specs.declared.check_answers.PlaceVerdict.TheVariants.{Good, Outside, Overlap}

-- in the dimension the box lies within the container
abbrev pub LiesWithin : PlainInstance → List ℕ → ℕ → ℕ → Type 0
LiesWithin instance places v i = place instance places v i + written_side instance v i ≤ written_container instance i

-- the box leaves the container in the dimension; all earlier boxes lie within it, and this one in
-- all earlier dimensions
pub record IsFirstOutside (instance : PlainInstance) (places : List ℕ) (v i : ℕ) : Type 0 where
  pub box_there : v < box_count instance
  pub dim_there : i < dims instance
  pub leaves : written_container instance i < place instance places v i + written_side instance v i
  pub earlier : (u j : ℕ) → u < v → j < dims instance → LiesWithin instance places u j
  pub before : (j : ℕ) → j < i → LiesWithin instance places v j

-- all boxes lie within the container, and the two aren't apart by the kerf; all earlier pairs are,
-- by the first box and then by the second
pub record IsFirstOverlap (instance : PlainInstance) (places : List ℕ) (u v : ℕ) : Type 0 where
  pub inside : (x i : ℕ) → x < box_count instance → i < dims instance → LiesWithin instance places x i
  pub rising : u < v
  pub there : v < box_count instance
  pub overlap : ¬ AreApart instance places u v
  pub earlier : (x y : ℕ) → x < u → x < y → y < box_count instance → AreApart instance places x y
  pub before : (y : ℕ) → u < y → y < v → AreApart instance places u y

-- what each verdict says
abbrev pub TellsOfPlaces : PlainInstance → List ℕ → PlaceVerdict → Type 0
TellsOfPlaces instance places Good = IsPacking instance places
TellsOfPlaces instance places (Outside v i) = IsFirstOutside instance places v i
TellsOfPlaces instance places (Overlap u v) = IsFirstOverlap instance places u v
