-- A walk that closes each node, and where the nodes that wait are closed.
use Rattle.std.specs.Prelude.{◌≡◌, ◌≤◌, List, [], ◌∷◌, length, reverse, Option, Some, None}
use Rattle.packing_terms.specs.declared.Exclusion.{Exclusion}
use Rattle.packing_terms.specs.Packing.{PlainInstance, dims, box_count}
use Rattle.edge_state.specs.Edges.{oldest}
use Rattle.rule_closure.specs.declared.closer.Closed.{Closed}
use Rattle.rule_closure.specs.declared.closer.Closed.TheVariants.{Stable, Conflict}
use Rattle.refutation_steps.specs.declared.closings.Node.{Node}
use Rattle.refutation_steps.specs.declared.closings.Closings.{Closings}
use Rattle.refutation_steps.specs.Nodes.{IsClosedAt, IsKnown, IsAtAmong}

-- a node may be entered from these exclusions of its parent
pub record IsWaiting (instance : PlainInstance) (es : List Exclusion) (node : Node) : Type 0 where
  pub known : IsKnown instance es node.closed
  pub first : IsAtAmong (dims instance) (box_count instance) node.first
  pub second : IsAtAmong (dims instance) (box_count instance) node.second

-- the nodes wait, the next one first, where the list is this
abbrev pub AreWaiting : PlainInstance → List Exclusion → List Node → Type 0
AreWaiting instance es [] = Unit {0}
AreWaiting instance es (node ∷ nodes) =
    (node.before ≤ length es) × IsWaiting instance (oldest node.before es) node
    × AreWaiting instance (oldest node.before es) nodes

-- all has the sizes of the instance, and the nodes wait
pub record IsTracked (instance : PlainInstance) (w : Closings) : Type 0 where
  pub same_dims : w.state.dims ≡ dims instance
  pub same_boxes : w.state.boxes ≡ box_count instance
  pub closer_for : w.closer ≡ record { dims = dims instance; boxes = box_count instance }
  pub waits : AreWaiting instance w.state.trail (reverse w.waiting.items)

-- the walk came to a node, where one waited
abbrev pub IsEntered : PlainInstance → Closings → Option Node → Type 0
IsEntered instance w None = IsTracked instance w
IsEntered instance w (Some node) =
    IsTracked instance w × IsKnown instance w.state.trail node.closed × (node.before ≤ length w.state.trail)

-- what is known of the list where a closing came to this
abbrev pub IsClosedWhere : PlainInstance → Closings → Option Closed → Type 0
IsClosedWhere instance w None = Unit {0}
IsClosedWhere instance w (Some Conflict) = Unit {0}
IsClosedWhere instance w (Some Stable) = IsClosedAt instance w.state.trail (length w.state.trail)

-- the walk is at a node that was closed, where one waited
pub record IsNodeClosed (instance : PlainInstance) (w : Closings) (ended : Option Closed) : Type 0 where
  pub tracked : IsTracked instance w
  pub closed : IsClosedWhere instance w ended

-- a child of the node that the walk is at, where that is closed
pub record IsChild (instance : PlainInstance) (w : Closings) (node : Node) : Type 0 where
  pub before : node.before ≡ length w.state.trail
  pub closed : node.closed ≡ Some (length w.state.trail)
  pub first : IsAtAmong (dims instance) (box_count instance) node.first
  pub second : IsAtAmong (dims instance) (box_count instance) node.second
