use Rattle.std.proofs.Common.{◌≡◌, ◌+◌, ◌-◌, ◌*◌, ◌/◌, length}
use Rattle.packing_terms.specs.Applied.{Extends}
use Rattle.edge_state.specs.BitRows.{row_has, members_below}
use Rattle.edge_state.specs.Work.{IsWorklistDone}
use Rattle.orientation_rules.specs.Pending.{AreFollowed}
use Rattle.rule_passes.proofs.closing.run_to_fixpoint.Given as goal

abbrev pub invariant-loop-dim : goal.invariant-loop-dim
invariant-loop-dim g l = record {
  same_dims : l.state.dims ≡ l.fn.state.dims;
  same_boxes : l.state.boxes ≡ l.fn.state.boxes;
  same_box_capacity : l.state.room ≡ l.fn.state.room;
  extends : Extends l.instance l.fn.state.trail l.state.trail;
  looked : IsWorklistDone l.instance l.state.trail l.state.trail l.pending.dirty;
  followed : AreFollowed l.instance l.state (length l.state.trail) l.weights l.pending;
}

abbrev pub decreases-loop-dim : goal.decreases-loop-dim
decreases-loop-dim g l = 65 * (3 * l.fn.state.dims * l.fn.state.boxes * (l.fn.state.boxes - 1) / 2 - length
    l.state.trail) + members_below (row_has l.pending.dirty) 64
