-- The places of a settled state: in each dimension each box starts at the greatest end of a box
-- that is surely before it.
-- Source: coordinates from a packing class by longest paths, Fekete, Schepers and van der Veen
-- (2007).
use Rattle.std.specs.Prelude.{ℕ, ◌+◌, ◌<◌, ◌≤◌, ◌≡◌, ◌⊎◌, List, false}
use Rattle.packing_terms.specs.declared.Rel.{Rel}
use Rattle.packing_terms.specs.Packing.{PlainInstance, dims, box_count, side, place}
use Rattle.packing_terms.specs.Exclusions.{Exclusions, IsEdge, IsSurelyBefore}

-- in some dimension one of the two boxes is surely before the other; where no mask is empty, the
-- mask there is exactly before or exactly after
abbrev pub IsOrdered : PlainInstance → Exclusions → ℕ → ℕ → Type 0
IsOrdered instance X u v =
    (i : ℕ) × (i < dims instance) × (IsSurelyBefore X i u v ⊎ IsSurelyBefore X i v u)

-- no mask is empty
abbrev pub HasNoEmptyMask : PlainInstance → Exclusions → Type 0
HasNoEmptyMask instance X = (i u v : ℕ) → IsEdge instance i u v → (r : Rel) × (X i u v r ≡ false)

-- p is the greatest end of a box that is surely before v, and 0 where there is none
pub record IsGreatestEnd (instance : PlainInstance) (X : Exclusions) (places : List ℕ) (i v : ℕ) : Type 0 where
  pub above : (u : ℕ) → u < box_count instance → IsSurelyBefore X i u v
      → place instance places u i + side instance u i ≤ place instance places v i
  pub reached : (place instance places v i ≡ 0)
      ⊎ ((u : ℕ) × (u < box_count instance) × IsSurelyBefore X i u v
      × (place instance places v i ≡ place instance places u i + side instance u i))
