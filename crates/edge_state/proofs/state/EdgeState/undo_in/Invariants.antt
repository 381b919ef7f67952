use Rattle.std.proofs.Common.{◌≡◌, ◌-◌, ◌≤◌, length, drop, reverse}
use Rattle.std.specs.Prelude.{vec_capacity}
use Rattle.edge_state.specs.Edges.{AreKept, plain_edges}
use Rattle.edge_state.specs.ChainWeights.{AreOf}
use Rattle.edge_state.proofs.state.EdgeState.undo_in.Given as goal

abbrev pub invariant-loop-self : goal.invariant-loop-self
invariant-loop-self g l = record {
  dims : l.self-inside.dims ≡ l.fn.self.dims;
  boxes : l.self-inside.boxes ≡ l.fn.self.boxes;
  room : l.self-inside.room ≡ l.fn.self.room;
  kept : AreKept (plain_edges l.self-inside.dims l.self-inside.boxes l.self-inside.room l.self-inside.trail)
      l.self-inside.rows (vec_capacity l.self-inside.trail);
  held : AreOf l.self-inside.dims l.self-inside.boxes l.fn.self.trail l.self-inside.weights;
  few : length l.self-inside.trail.items ≤ length l.fn.self.trail;
  above : l.fn.to ≤ length l.self-inside.trail.items;
  cut : reverse l.self-inside.trail.items
      ≡ drop (length l.fn.self.trail - length l.self-inside.trail.items) l.fn.self.trail;
}

abbrev pub decreases-loop-self : goal.decreases-loop-self
decreases-loop-self g l = length l.self-inside.trail.items
