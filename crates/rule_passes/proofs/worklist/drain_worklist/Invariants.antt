use Rattle.std.proofs.Common.{◌≡◌, ◌≤◌, ◌-◌, ◌*◌, ◌/◌, length}
use Rattle.packing_terms.specs.Applied.{Extends}
use Rattle.edge_state.specs.Edges.{oldest}
use Rattle.edge_state.specs.Work.{IsWorklistDone}
use Rattle.orientation_rules.specs.Pending.{AreFollowed}
use Rattle.rule_passes.proofs.worklist.drain_worklist.Given as goal

abbrev pub invariant-loop-change : goal.invariant-loop-change
invariant-loop-change g l = record {
  same_dims : l.state.dims ≡ l.fn.state.dims;
  same_boxes : l.state.boxes ≡ l.fn.state.boxes;
  same_box_capacity : l.state.room ≡ l.fn.state.room;
  extends : Extends l.instance l.fn.state.trail l.state.trail;
  later : l.fn.closed ≤ l.next;
  within : l.next ≤ length l.state.trail;
  looked : IsWorklistDone l.instance (oldest l.next l.state.trail) l.state.trail l.pending.dirty;
  followed : AreFollowed l.instance l.state l.next l.weights l.pending;
  still : l.next ≡ l.fn.closed → l.pending.dirty ≡ l.fn.pending.dirty;
}

abbrev pub decreases-loop-change : goal.decreases-loop-change
decreases-loop-change g l = 3 * l.fn.state.dims * l.fn.state.boxes * (l.fn.state.boxes - 1) / 2 - l.next
