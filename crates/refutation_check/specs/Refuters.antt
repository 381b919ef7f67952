-- What a refuter is seen as, and what its type keeps.
use Rattle.std.specs.Prelude.{ℕ, ◌+◌, ◌-◌, ◌*◌, ◌≤◌, ◌≡◌, List, length, map, reverse}
use Rattle.packing_terms.specs.declared.Exclusion.{Exclusion}
use Rattle.packing_terms.specs.Packing.{PlainInstance, dims, box_count}
use Rattle.packing_terms.specs.Goals.{subset}
use Rattle.packing_terms.specs.Tokens.{PlainToken}
use Rattle.edge_state.specs.Edges.{PlainEdges}
use Rattle.verdict_terms.specs.Checking.{Checked, checked_after, inner_after}
use Rattle.refutation_check.specs.declared.node.OpenNode.{OpenNode}
use Rattle.rule_passes.specs.Rooms.{PlainPropagator}
use Rattle.refutation_check.specs.Nodes.{node_exclusions, above, all_relations, AreHeld}

-- the instance, the boxes of the tree by rising number, and what was checked of it: the list of
-- open nodes, each with the exclusions of the splits above it, in which the boxes are counted
-- within the set
pub record PlainRefuter : Type 0 where
  pub instance : PlainInstance
  pub keep : List ℕ
  pub checked : Checked (List Exclusion)

-- how many nodes can be open: each pair is split at most twice in each dimension
abbrev pub most_nodes : PlainInstance → ℕ
most_nodes instance = dims instance * box_count instance * (box_count instance - 1) + 1

-- a token more
abbrev pub fed : PlainRefuter → PlainToken → PlainRefuter
fed r t = record r { checked = checked_after (inner_after (subset r.instance r.keep)) r.checked t }

-- the open nodes, the next one first: in the code it stands last
abbrev pub nodes_of : List Exclusion → List Exclusion → List OpenNode → List (List Exclusion)
nodes_of start splits held = map (λ n. node_exclusions n (above start splits n)) (reverse held)

-- what the type keeps: state and room have the sizes of the set's instance, and there is memory for
-- the trees of the whole one
pub record IsHeld (whole set : PlainInstance) (start splits : List Exclusion) (held : List OpenNode)
    (state : PlainEdges) (room : PlainPropagator)
    (split_capacity node_capacity : ℕ) : Type 0 where
  pub within : box_count set ≤ box_count whole
  pub same_dims : state.dims ≡ dims set
  pub same_boxes : state.boxes ≡ box_count set
  pub state_room : state.room ≡ box_count whole
  pub room_dims : room.dims ≡ dims set
  pub room_boxes : room.boxes ≡ box_count set
  pub room_most : room.most ≡ box_count whole
  pub split_room : 2 * all_relations whole ≤ split_capacity
  pub node_room : most_nodes whole ≤ node_capacity
  pub few : length held ≤ most_nodes set
  pub nodes : AreHeld set start splits state.trail (length state.trail) (length splits) (reverse held)
