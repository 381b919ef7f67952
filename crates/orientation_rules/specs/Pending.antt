-- The weights of chains in a closing, and the pairs at which CHAIN isn't applied yet.
use Rattle.std.specs.Prelude.{ℕ, ◌≡◌, ◌+◌, ◌<◌, ◌≤◌, ◌⊎◌, List, [], slice_index, slice_index_or, true, false}
use Rattle.packing_terms.specs.declared.Exclusion.{Exclusion}
use Rattle.packing_terms.specs.declared.Direction.{Direction}
use Rattle.packing_terms.specs.declared.Direction.TheVariants.{Forwards, Backwards}
use Rattle.packing_terms.specs.Packing.{PlainInstance, dims, box_count, side, container_side}
use Rattle.packing_terms.specs.Exclusions.{excludes, Exclusions, IsSurelyBefore}
use Rattle.packing_terms.specs.Runs.{HasNoHeavierRun, Leads}
use Rattle.edge_state.specs.BitRows.{row_has}
use Rattle.orientation_rules.specs.declared.rising.Stop.{Stop}
use Rattle.orientation_rules.specs.declared.rising.Stop.TheVariants.{OverLong, Full}
use Rattle.edge_state.specs.Edges.{PlainEdges, oldest}
use Rattle.edge_state.specs.ChainWeights.{AreForInstance, AreOf, AreSettled, AreWalks, FitsBefore, PlainWeights, list_number, weights_in}

-- The view of what is pending: in each dimension the boxes whose weights rose since CHAIN was applied,
-- of the chains that end in them and that start in them; the dimensions whose weights are unknown; and
-- those in which CHAIN has to be applied.
pub record PlainPending : Type 0 where
  pub heads : List (List ℕ)
  pub tails : List (List ℕ)
  pub unknown : List ℕ
  pub dirty : List ℕ

abbrev pub risen_in : List (List ℕ) → ℕ → List ℕ
risen_in rows i = slice_index_or rows i []

-- each two boxes fit, unless the first is in one row or the second in another
pub record FitOutside (instance : PlainInstance) (s : PlainEdges) (i : ℕ) (numbers : List (List ℕ))
    (firsts seconds : List ℕ) : Type 0 where
  pub firsts_within : (u : ℕ) → row_has firsts u ≡ true → u < box_count instance
  pub seconds_within : (v : ℕ) → row_has seconds v ≡ true → v < box_count instance
  pub fit : (u v : ℕ) → u < box_count instance → v < box_count instance → row_has firsts u ≡ false
      → row_has seconds v ≡ false
      → FitsBefore i (excludes s.trail) (container_side instance i) (weights_in numbers Backwards i)
      (weights_in numbers Forwards i) u v

-- The weights of a dimension are those of walks by all exclusions, and settled by the exclusions up to
-- a mark. Each two boxes fit, unless the weight of one of them rose.
pub record IsLiveIn (instance : PlainInstance) (s : PlainEdges) (mark i : ℕ) (numbers : List (List ℕ))
    (heads tails : List ℕ) : Type 0 where
  pub walks : (direction : Direction) → AreWalks (box_count instance) (Leads (excludes s.trail) i direction)
      (λ u. side instance u i) (weights_in numbers direction i)
  pub settled : (direction : Direction) → AreSettled (box_count instance)
      (Leads (excludes (oldest mark s.trail)) i direction) (λ u. side instance u i) (weights_in numbers direction i)
  pub fit : FitOutside instance s i numbers heads tails

-- the weights of each dimension in which they are known
abbrev pub AreLive : PlainInstance → PlainEdges → ℕ → List (List ℕ) → PlainPending → Type 0
AreLive instance s mark numbers p = (i : ℕ) → i < dims instance → row_has p.unknown i ≡ false
    → IsLiveIn instance s mark i numbers (risen_in p.heads i) (risen_in p.tails i)

-- in a dimension the weights are known, and none rose since CHAIN was applied
pub record IsCalm (p : PlainPending) (i : ℕ) : Type 0 where
  pub known : row_has p.unknown i ≡ false
  pub heads : (u : ℕ) → row_has (risen_in p.heads i) u ≡ false
  pub tails : (u : ℕ) → row_has (risen_in p.tails i) u ≡ false

-- the weights are of this instance, and taken back to the end of an earlier closing they are good for
-- the state there
pub record AreHeld (instance : PlainInstance) (s : PlainEdges) (k : PlainWeights) : Type 0 where
  pub back : AreOf (dims instance) (box_count instance) s.trail k
  pub same : AreForInstance instance k

-- The changes of the state up to a mark are processed. CHAIN has to be applied in the dimensions of
-- `dirty` alone.
pub record AreFollowed (instance : PlainInstance) (s : PlainEdges) (mark : ℕ) (k : PlainWeights) (p : PlainPending) :
    Type 0 where
  pub held : AreHeld instance s k
  pub live : AreLive instance s mark k.numbers p
  pub calm : (i : ℕ) → i < dims instance → row_has p.dirty i ≡ false → IsCalm p i
  pub within : (i : ℕ) → row_has p.dirty i ≡ true → i < dims instance

-- Weights of one direction and dimension rose from the old ones, for the boxes of `risen` alone. The
-- raises are propagated to predecessors, but for those of the boxes of `rest`.
pub record AreRising (instance : PlainInstance) (s : PlainEdges) (i : ℕ) (direction : Direction)
    (old new : List (List ℕ)) (rest risen : List ℕ) : Type 0 where
  pub walks : AreWalks (box_count instance) (Leads (excludes s.trail) i direction) (λ u. side instance u i)
      (weights_in new direction i)
  pub grows : (u : ℕ) → slice_index (weights_in old direction i) u ≤ slice_index (weights_in new direction i) u
  pub stays : (u : ℕ) → row_has risen u ≡ false
      → slice_index (weights_in new direction i) u ≡ slice_index (weights_in old direction i) u
  pub settled : (v x : ℕ) → v < box_count instance → x < box_count instance → row_has risen x ≡ true
      → row_has rest x ≡ false
      → HasNoHeavierRun (Leads (excludes s.trail) i direction) (λ u. side instance u i) (weights_in new direction i) v x
  pub within : (u : ℕ) → row_has risen u ≡ true → u < box_count instance
  pub subset : (u : ℕ) → row_has rest u ≡ true → row_has risen u ≡ true
  pub others : (list : ℕ) → (list ≡ list_number direction i → ⊥) → slice_index_or new list [] ≡ slice_index_or old list []

-- the weights of all other dimensions stay
abbrev pub OtherDimsStay : ℕ → List (List ℕ) → List (List ℕ) → Type 0
OtherDimsStay i old new = (direction : Direction) (j : ℕ) → j < 4 → (j ≡ i → ⊥)
    → weights_in new direction j ≡ weights_in old direction j

-- After `x` became a successor of `v`, weights of one direction rose, for the boxes of `risen` alone.
-- No weight can be raised by a box of `risen`, nor that of `v` by `x`.
pub record AreLinkedBy (instance : PlainInstance) (s : PlainEdges) (i : ℕ) (direction : Direction) (v x : ℕ)
    (old new : List (List ℕ)) (risen : List ℕ) : Type 0 where
  pub walks : AreWalks (box_count instance) (Leads (excludes s.trail) i direction) (λ u. side instance u i)
      (weights_in new direction i)
  pub grows : (u : ℕ) → slice_index (weights_in old direction i) u ≤ slice_index (weights_in new direction i) u
  pub stays : (u : ℕ) → row_has risen u ≡ false
      → slice_index (weights_in new direction i) u ≡ slice_index (weights_in old direction i) u
  pub settled : (u y : ℕ) → u < box_count instance → y < box_count instance → row_has risen y ≡ true
      → HasNoHeavierRun (Leads (excludes s.trail) i direction) (λ z. side instance z i) (weights_in new direction i) u y
  pub pair : HasNoHeavierRun (Leads (excludes s.trail) i direction) (λ z. side instance z i)
      (weights_in new direction i) v x
  pub within : (u : ℕ) → row_has risen u ≡ true → u < box_count instance

-- after `a` was ordered before `b`, weights rose in both directions
pub record AreLinked (instance : PlainInstance) (s : PlainEdges) (i a b : ℕ) (old new : List (List ℕ))
    (heads tails : List ℕ) : Type 0 where
  pub first : AreLinkedBy instance s i Backwards b a old new heads
  pub second : AreLinkedBy instance s i Forwards a b old new tails

-- a chain through the box is longer than the container by its weights in both directions, in each of
-- which its own side counts
abbrev pub IsOverLongAt : PlainInstance → (i : ℕ) → (numbers : List (List ℕ)) → (x : ℕ) → Type 0
IsOverLongAt instance i numbers x = container_side instance i + side instance x i
    < slice_index (weights_in numbers Backwards i) x + slice_index (weights_in numbers Forwards i) x

-- raising stopped at a box with an over-long chain through it, or at a full log
abbrev pub IsStopAt : PlainInstance → (i : ℕ) → (numbers : List (List ℕ)) → Stop → Type 0
IsStopAt instance i numbers (OverLong x) = (x < box_count instance) × IsOverLongAt instance i numbers x
IsStopAt instance i numbers Full = Unit {0}

-- the boxes of a change, the first surely before the second, and not the second before the first
pub record IsOrderedPair (X : Exclusions) (e : Exclusion) (a b : ℕ) : Type 0 where
  pub forth : IsSurelyBefore X e.dim a b
  pub back : IsSurelyBefore X e.dim b a → ⊥
  pub at : ((a ≡ e.u) × (b ≡ e.v)) ⊎ ((a ≡ e.v) × (b ≡ e.u))
