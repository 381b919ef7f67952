-- Weights of chains that are raised while two boxes are ordered.
use Rattle.std.specs.Prelude.{ℕ, ◌≡◌, ◌+◌, ◌-◌, ◌*◌, ◌<◌, ◌≤◌, List, slice_index, true, false}
use Rattle.packing_terms.specs.declared.Direction.{Direction}
use Rattle.packing_terms.specs.Packing.{PlainInstance, box_count, side}
use Rattle.packing_terms.specs.Exclusions.{excludes}
use Rattle.packing_terms.specs.Runs.{Leads}
use Rattle.edge_state.specs.BitRows.{members_below, row_has}
use Rattle.edge_state.specs.Edges.{PlainEdges}
use Rattle.edge_state.specs.ChainWeights.{AreWalks, weights_in}

-- Weights of one direction and dimension rose from the old ones. Each box whose weight rose is in
-- two rows now: `more_rest`, of the boxes that aren't propagated yet, and `more_risen`, of all that
-- rose. The rows lost no box.
pub record AreRaised (instance : PlainInstance) (s : PlainEdges) (i : ℕ) (direction : Direction)
    (old new : List (List ℕ)) (rest more_rest risen more_risen : List ℕ) : Type 0 where
  pub walks : AreWalks (box_count instance) (Leads (excludes s.trail) i direction) (λ u. side instance u i)
      (weights_in old direction i)
      → AreWalks (box_count instance) (Leads (excludes s.trail) i direction) (λ u. side instance u i)
      (weights_in new direction i)
  pub grows : (u : ℕ) → slice_index (weights_in old direction i) u ≤ slice_index (weights_in new direction i) u
  pub stays : (u : ℕ) → row_has more_risen u ≡ false → (row_has risen u ≡ false)
      × (slice_index (weights_in new direction i) u ≡ slice_index (weights_in old direction i) u)
  pub propagated : (u : ℕ) → row_has more_rest u ≡ false → (row_has rest u ≡ false)
      × (slice_index (weights_in new direction i) u ≡ slice_index (weights_in old direction i) u)
  pub fresh : (u : ℕ) → row_has more_risen u ≡ true → row_has more_rest u ≡ false → row_has risen u ≡ true
  pub within : ((u : ℕ) → row_has risen u ≡ true → u < box_count instance)
      → (u : ℕ) → row_has more_risen u ≡ true → u < box_count instance
  pub subset : ((u : ℕ) → row_has rest u ≡ true → row_has risen u ≡ true)
      → (u : ℕ) → row_has more_rest u ≡ true → row_has more_risen u ≡ true

-- A bound on the steps of a propagation, with this many raises in the log and this row of boxes
-- that aren't propagated yet: each further raise that the log holds may put every box into the row.
abbrev pub raises_left : (words raises : ℕ) → List ℕ → ℕ
raises_left words raises rest = (4096 - raises) * (64 * words + 1) + members_below (row_has rest) (64 * words)
