use Rattle.std.proofs.Common.{◌*◌, refl, ap}
use Rattle.edge_state.specs.BitRows.{row_has}
use Rattle.edge_state.specs.Edges.{PlainEdges}
use Rattle.edge_state.proofs.RowBits.{members_fewer}
use Rattle.edge_state.proofs.RowSteps.{edge_of, begun, state_next, taken_next, row_done, same_boxes, same_dims}
use Rattle.edge_state.proofs.state.EdgeState.exclude_row.Goals as goal

pub loop-v-init : goal.loop-v-init
loop-v-init g c =
    let all = begun c.args.self.now.trail c.args.self.now.boxes c.args.dim c.args.u c.args.rel (row_has c.args.row)
    (row_has c.row_in-left.result) (row_has c.and-rest.result) c.requires.members c.row_in-left.ensures
    c.and-rest.ensures in
    record { state = refl; still = all.0; others = all.1; free = all.2 }

pub loop-v-smaller : goal.loop-v-smaller
loop-v-smaller g c =
    members_fewer (row_has c.loop-v.rest) (row_has c.without-rest.result) c.in-Some.v (64 * g.row.K)
    c.without-rest.ensures c.in-Some.ensures.least.there c.in-Some.ensures.limit

pub take-requires-clause-words : goal.take-requires-clause-words
take-requires-clause-words g c = rw (same_boxes c.args.self.now c.loop-v.self c.loop-v.invariant.state) c.requires.words

pub take-requires-clause-edge : goal.take-requires-clause-edge
take-requires-clause-edge g c =
    rw (
      same_boxes c.args.self.now c.loop-v.self c.loop-v.invariant.state,
      same_dims c.args.self.now c.loop-v.self c.loop-v.invariant.state,
    )
    (edge_of c.args.self.now.dims c.args.self.now.boxes c.args.dim c.args.u c.in-Some.v c.requires.dim c.requires.u
    (c.loop-v.invariant.others c.in-Some.v c.in-Some.ensures.least.there))

pub take-requires-clause-left : goal.take-requires-clause-left
take-requires-clause-left g c = c.loop-v.invariant.free c.in-Some.v c.in-Some.ensures.least.there

pub loop-v-preserved : goal.loop-v-preserved
loop-v-preserved g c =
    let all = taken_next c.args.self.now.trail c.loop-v.self.trail c.take.new.self.trail c.args.self.now.boxes c.args.dim
    c.args.u c.in-Some.v c.args.rel (row_has c.args.row) (row_has c.loop-v.rest) (row_has c.without-rest.result)
    c.loop-v.invariant.still c.loop-v.invariant.others c.loop-v.invariant.free c.in-Some.ensures.least.there
    c.in-Some.ensures.least.least c.without-rest.ensures (ap (λ (s : PlainEdges). s.trail) c.take.ensures) in
    record {
      state = state_next c.args.self.now c.loop-v.self c.take.new.self _ c.loop-v.invariant.state c.take.ensures;
      still = all.0;
      others = all.1;
      free = all.2;
    }

pub returns-clause-state : goal.returns-clause-state
returns-clause-state g c =
    row_done c.args.self.now c.loop-v.self c.args.dim c.args.u c.args.rel (row_has c.args.row)
    (row_has c.loop-v.rest) c.loop-v.invariant.state c.loop-v.invariant.still c.in_default.ensures.least
