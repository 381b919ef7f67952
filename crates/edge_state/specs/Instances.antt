-- The instances of the rules that are applied for one edge, in one order of its boxes.
use Rattle.std.specs.Prelude.{◌≡◌, ◌≢◌, ℕ, ◌<◌, ◌⊎◌, Bool, true}
use Rattle.packing_terms.specs.declared.Rel.{Rel}
use Rattle.packing_terms.specs.declared.Rel.TheVariants.{Overlap, Before}
use Rattle.packing_terms.specs.Packing.{PlainInstance, dims, box_count}
use Rattle.packing_terms.specs.Rules.{Rule, Apart, Triple, Compose, Cycle, Order}

module _ (instance : PlainInstance) (j p q : ℕ) (rule : Rule) where
  abbrev pub Composes : Type 0
  Composes = (x : ℕ) × (x < box_count instance) × (rule ≡ Compose j p q x)

  abbrev pub Triples : Type 0
  Triples = (v : ℕ) × (v < box_count instance) × (rule ≡ Triple j p v q)

  abbrev pub Aparts : Type 0
  Aparts = (i : ℕ) × (i < dims instance) × ((j ≢ i) × (rule ≡ Apart i p q))

  abbrev pub Cycles : Type 0
  Cycles = (c : ℕ) × (c < box_count instance) × ((d : ℕ) × (d < box_count instance) × (rule ≡ Cycle j p q c d))

  abbrev pub Chords : Type 0
  Chords = (b : ℕ) × (b < box_count instance) × ((d : ℕ) × (d < box_count instance) × (rule ≡ Cycle j p b q d))

  abbrev pub OrdersFirst : Type 0
  OrdersFirst = (d : ℕ) × (d < box_count instance) × ((c : ℕ) × (c < box_count instance) × (rule ≡ Order j p q c d))

  abbrev pub OrdersSecond : Type 0
  OrdersSecond = (a : ℕ) × (a < box_count instance) × ((b : ℕ) × (b < box_count instance) × (rule ≡ Order j a b p q))

  abbrev pub OrdersCrossed : Type 0
  OrdersCrossed = (b : ℕ) × (b < box_count instance) × ((c : ℕ) × (c < box_count instance) × (rule ≡ Order j p b c q))

-- all that are due where these relations of the edge are newly excluded, in the order in which they
-- are applied
abbrev pub DueAll : PlainInstance → (fresh : Rel → Bool) → ℕ → ℕ → ℕ → Rule → Type 0
DueAll instance fresh j p q rule =
    (((Composes instance j p q rule
    ⊎ ((fresh Overlap ≡ true) × (Triples instance j p q rule ⊎ Chords instance j p q rule)))
    ⊎ (Aparts instance j p q rule ⊎ Cycles instance j p q rule))
    ⊎ (OrdersFirst instance j p q rule ⊎ OrdersSecond instance j p q rule))
    ⊎ ((fresh Before ≡ true) × OrdersCrossed instance j p q rule)
