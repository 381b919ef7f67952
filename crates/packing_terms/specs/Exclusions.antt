-- Sets of exclusions, and the places that respect them. An exclusion rules one relation out, in one
-- dimension for one pair of boxes; what isn't excluded there is the mask. An exclusion is the same
-- as its mirror: `v`, `u` with before and after swapped.
-- Source: the states of the component graphs in Fekete, Schepers and van der Veen (2007), where
-- edges are fixed, excluded or open.
use Rattle.std.specs.Prelude.{ℕ, ◌-◌, ◌*◌, ◌/◌, ◌<◌, ◌≢◌, ◌==◌, ◌&&◌, ◌||◌, List, [], ◌∷◌, Bool, true, false, IsTrue}
use Rattle.std.specs.List.{list_any}
use Rattle.packing_terms.specs.declared.Rel.{Rel}
use Rattle.packing_terms.specs.declared.Rel.TheVariants.{Overlap, Before, After}
use Rattle.packing_terms.specs.declared.Exclusion.{Exclusion}
use Rattle.packing_terms.specs.Packing.{PlainInstance, dims, box_count}
use Rattle.packing_terms.specs.Relations.{Holds, mirror}

-- a set of exclusions, as a test: whether a relation is excluded in a dimension, at a pair; numbers
-- that name nothing are allowed
abbrev pub Exclusions : Type 0
Exclusions = ℕ → ℕ → ℕ → Rel → Bool

-- the exclusion of a relation in dimension i, of boxes u and v
abbrev pub exclusion_at : ℕ → ℕ → ℕ → Rel → Exclusion
exclusion_at i u v r = record { dim = i; u = u; v = v; rel = r }

-- whether two relations are one
abbrev pub is_same_rel : Rel → Rel → Bool
is_same_rel Overlap Overlap = true
is_same_rel Before Before = true
is_same_rel After After = true
is_same_rel _ _ = false

-- whether the exclusion is of this relation in this dimension, at this pair in this order
abbrev pub is_at : Exclusion → Exclusions
is_at e i u v r = (e.dim == i) && (e.u == u) && (e.v == v) && is_same_rel e.rel r

-- an exclusion is the same as its mirror
abbrev pub is_of : Exclusion → Exclusions
is_of e i u v r = is_at e i u v r || is_at e i v u (mirror r)

-- the set of the exclusions of a list; one exclusion more is put in front
abbrev pub excludes : List Exclusion → Exclusions
excludes es i u v r = list_any (λ e. is_of e i u v r) es

-- the dimension is there, and the boxes are two boxes that are there
pub record IsEdgeAmong (d n i u v : ℕ) : Type 0 where
  pub dim : i < d
  pub first : u < n
  pub second : v < n
  pub distinct : u ≢ v

-- a dimension and two boxes of the instance
abbrev pub IsEdge : PlainInstance → ℕ → ℕ → ℕ → Type 0
IsEdge instance i u v = IsEdgeAmong (dims instance) (box_count instance) i u v

-- each exclusion of the list is in a dimension that is there, of two boxes that are there
abbrev pub AreAtEdges : PlainInstance → List Exclusion → Type 0
AreAtEdges instance [] = Unit {0}
AreAtEdges instance (e ∷ es) = IsEdge instance e.dim e.u e.v × AreAtEdges instance es

-- how many relations there are, of all pairs of `n` boxes in `d` dimensions
abbrev pub relation_count : ℕ → ℕ → ℕ
relation_count d n = 3 * d * n * (n - 1) / 2

-- the places respect the set: none of the excluded relations holds
abbrev pub Respects : PlainInstance → List ℕ → Exclusions → Type 0
Respects instance places X = (i u v : ℕ) (r : Rel) → IsTrue (X i u v r) → ¬ Holds instance places i u v r

-- the pair is apart: it doesn't overlap
abbrev pub IsApart : Exclusions → ℕ → ℕ → ℕ → Type 0
IsApart X i u v = IsTrue (X i u v Overlap)

-- the pair is joined: neither is before the other
abbrev pub IsJoined : Exclusions → ℕ → ℕ → ℕ → Type 0
IsJoined X i u v = IsTrue (X i u v Before) × IsTrue (X i u v After)

-- u is surely before v: it neither overlaps v nor comes after it. Nothing is said of before, so at
-- an empty mask both directions hold.
abbrev pub IsSurelyBefore : Exclusions → ℕ → ℕ → ℕ → Type 0
IsSurelyBefore X i u v = IsTrue (X i u v Overlap) × IsTrue (X i u v After)
