-- What the decisions of sets are seen as, and the room that they have.
use Rattle.std.specs.Prelude.{ℕ, ◌+◌, ◌<◌, ◌≡◌, List, length, slice_index_or, Bool}
use Rattle.packing_terms.specs.Packing.{PlainInstance, dims, box_count}
use Rattle.edge_state.specs.Edges.{PlainEdges}
use Rattle.rule_closure.specs.Closes.{PlainCloser}

-- the instance whose sets are decided, and the choice of scales
pub record PlainSetSearch : Type 0 where
  pub instance : PlainInstance
  pub scales : Bool

-- what is read past the end of a list of rooms
abbrev pub no_closer : PlainCloser
no_closer = record { dims = 0; boxes = 0 }

-- one after another the room of a closing for each number of boxes, from 1 on
abbrev pub AreClosers : ℕ → List PlainCloser → Type 0
AreClosers d closers = (k : ℕ) → k < length closers
    → slice_index_or closers k no_closer ≡ record { dims = d; boxes = k + 1 }

-- the set, the state and the rooms are for the boxes of the instance
pub record HasRoom (instance whole : PlainInstance) (state : PlainEdges) (closers : List PlainCloser) : Type 0 where
  pub same : whole ≡ instance
  pub same_dims : state.dims ≡ dims instance
  pub room : state.room ≡ box_count instance
  pub closes : AreClosers (dims instance) closers
