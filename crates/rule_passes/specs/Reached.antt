-- The instances that are applied for one edge, in one order of its boxes, by what they ask of it.
use Rattle.std.specs.Prelude.{ℕ, ◌≡◌, ◌≢◌, ◌<◌, ◌≤◌, ◌⊎◌, Bool, true, false, ◌&&◌, ◌||◌, IsTrue}
use Rattle.packing_terms.specs.declared.Rel.{Rel}
use Rattle.packing_terms.specs.declared.Rel.TheVariants.{Overlap, Before, After}
use Rattle.packing_terms.specs.Packing.{PlainInstance, dims, box_count, side}
use Rattle.packing_terms.specs.Exclusions.{Exclusions}
use Rattle.packing_terms.specs.Rules.{Rule, Apart, Triple, Cycle, Order}
use Rattle.edge_state.specs.Instances.{OrdersCrossed, Aparts, Cycles, Chords, Triples}

-- no box is longer
abbrev pub BoundsSides : PlainInstance → ℕ → ℕ → Type 0
BoundsSides instance i most = (v : ℕ) → v < box_count instance → side instance v i ≤ most

-- no instance
abbrev pub NoRule : Rule → Type 0
NoRule rule = ⊥

-- Which relations of u and x the compositions leave, of those that aren't left of u and v: given by
-- what is left of u, v and of v, x.
abbrev pub composed : Rel → (left row : Rel → Bool) → Bool
composed Overlap left row = (row Overlap || (row After && left Before)) || (row Before && left After)
composed Before left row = (row Overlap && left Overlap) || row Before
composed After left row = (row Overlap && left Overlap) || row After

-- both relations to y of some member of the row, another box, are excluded
pub record IsGoneOf (X : Exclusions) (i : ℕ) (row : ℕ → Bool) (first second : Rel) (y : ℕ) : Type 0 where
  pub box : ℕ
  pub member : row box ≡ true
  pub distinct : box ≡ y → ⊥
  pub one : IsTrue (X i box y first)
  pub other : IsTrue (X i box y second)

-- those that ask for boxes that are apart
abbrev pub IsReachedApart : PlainInstance → ℕ → ℕ → ℕ → Rule → Type 0
IsReachedApart instance j p q rule =
    ((v : ℕ) × (v < box_count instance) × (rule ≡ Triple j p v q))
    ⊎ ((b : ℕ) × (b < box_count instance) × ((d : ℕ) × (d < box_count instance) × (rule ≡ Cycle j p b q d)))

-- those that ask for boxes that are joined
abbrev pub IsReachedJoined : PlainInstance → ℕ → ℕ → ℕ → Rule → Type 0
IsReachedJoined instance j p q rule =
    ((i : ℕ) × (i < dims instance) × ((j ≢ i) × (rule ≡ Apart i p q)))
    ⊎ ((c : ℕ) × (c < box_count instance) × ((d : ℕ) × (d < box_count instance) × (rule ≡ Cycle j p q c d)))

-- those that ask for a box that is surely before the other
abbrev pub IsReachedOrdered : PlainInstance → ℕ → ℕ → ℕ → Rule → Type 0
IsReachedOrdered instance j p q rule =
    ((d : ℕ) × (d < box_count instance) × ((c : ℕ) × (c < box_count instance) × (rule ≡ Order j p q c d)))
    ⊎ ((a : ℕ) × (a < box_count instance) × ((b : ℕ) × (b < box_count instance) × (rule ≡ Order j a b p q)))

-- Those that ask for joined, for ordered or for not before, each group where no relation is left of
-- the edge that contradicts what it asks for. Those that ask for not before are due only if the
-- exclusion of before isn't stale: it is new.
abbrev pub IsReachedFrom : PlainInstance → ℕ → ℕ → ℕ → (overlap before after stale : Bool) → Rule → Type 0
IsReachedFrom instance j p q overlap before after stale rule =
    ((((before ≡ false) × (after ≡ false)) × IsReachedJoined instance j p q rule)
    ⊎ (((overlap ≡ false) × (after ≡ false)) × IsReachedOrdered instance j p q rule))
    ⊎ (((before ≡ false) × (stale ≡ false)) × OrdersCrossed instance j p q rule)

-- the same without APART
abbrev pub IsReachedRest : PlainInstance → ℕ → ℕ → ℕ → (left : Rel → Bool) → (stale : Bool) → Rule → Type 0
IsReachedRest instance j p q left stale rule =
    ((((left Before ≡ false) × (left After ≡ false)) × Cycles instance j p q rule)
    ⊎ (((left Overlap ≡ false) × (left After ≡ false)) × IsReachedOrdered instance j p q rule))
    ⊎ (((left Before ≡ false) × (stale ≡ false)) × OrdersCrossed instance j p q rule)

-- the same in both orders of the boxes, where the mask is left, and turned round; some relations
-- are stale
abbrev pub IsReachedBoth : PlainInstance → ℕ → ℕ → ℕ → (left turned stale : Rel → Bool) → Rule → Type 0
IsReachedBoth instance j u v left turned stale rule =
    IsReachedRest instance j u v left (stale Before) rule ⊎ IsReachedRest instance j v u turned (stale After) rule

-- those, and APART in one order, which adds the same in both
abbrev pub IsReachedNear : PlainInstance → ℕ → ℕ → ℕ → (left turned stale : Rel → Bool) → Rule → Type 0
IsReachedNear instance j u v left turned stale rule =
    IsReachedBoth instance j u v left turned stale rule
    ⊎ (((left Before ≡ false) × (left After ≡ false)) × Aparts instance j u v rule)

-- those of CYCLE that ask for apart, and these
abbrev pub IsReachedChorded : PlainInstance → ℕ → ℕ → ℕ → (left turned stale : Rel → Bool) → Rule → Type 0
IsReachedChorded instance j u v left turned stale rule =
    (((left Overlap ≡ false) × (stale Overlap ≡ false)) × (Chords instance j u v rule ⊎ Chords instance j v u rule))
    ⊎ IsReachedNear instance j u v left turned stale rule

-- all that ask for apart, and these
abbrev pub IsReachedLater : PlainInstance → ℕ → ℕ → ℕ → (left turned stale : Rel → Bool) → Rule → Type 0
IsReachedLater instance j u v left turned stale rule =
    (((left Overlap ≡ false) × (stale Overlap ≡ false)) × (Triples instance j u v rule ⊎ Triples instance j v u rule))
    ⊎ IsReachedChorded instance j u v left turned stale rule
