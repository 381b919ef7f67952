use Rattle.std.proofs.Common.{sym, subst, ℕ}
use Rattle.edge_state.specs.Answers.{IsChangeAfter}
use Rattle.edge_state.proofs.Settled.{change_edge}
use Rattle.refutation_steps.proofs.Replayed.{so_far_start, so_far_next, replayed_end, replayed_stop, place_of}
use Rattle.refutation_steps.proofs.replay.replay_on.Goals as goal

pub loop-change-init : goal.loop-change-init
loop-change-init c = record {
  so_far = so_far_start c.args.instance.now c.args.state.now _ c.args.closed.now.trail c.args.from c.requires.mark
      c.requires.holds;
  room = c.requires.room;
}

pub change_after-requires : goal.change_after-requires
change_after-requires c = c.loop-change.invariant.so_far.within

pub make-requires-clause-placed : goal.make-requires-clause-placed
make-requires-clause-placed c =
    place_of c.args.instance.now c.args.state.now c.loop-change.state _ _ c.in-Some.change c.requires.dims
    c.requires.count c.loop-change.invariant.so_far.goes
    c.args.closed.now c.requires.closed_dims c.requires.closed_count
    (change_edge _ _ c.args.closed.now.trail c.loop-change.at _ c.in-Some.change c.dims-sizes.ensures.limits.trail
    c.in-Some.ensures)

pub loop-change-preserved : goal.loop-change-preserved
loop-change-preserved c = record {
  so_far = so_far_next c.args.instance.now _ _ _ _ _ _ c.args.closed.now.trail c.args.from c.loop-change.at _
      c.in-Some.change _ c.requires.derived
      c.loop-change.invariant.so_far (subst (λ (n : ℕ). IsChangeAfter c.args.closed.now.trail c.loop-change.at
      c.in-Some.change n) (sym c.mark_after-at.ensures) c.in-Some.ensures)
      c.in_ok-stopped.ensures.made c.if-stopped.false;
  room = c.in_ok-stopped.ensures.room;
}

pub returns-clause-replayed : goal.returns-clause-replayed
returns-clause-replayed c = replayed_end c.args.instance.now _ _ _ _ c.args.closed.now.trail c.args.from
    c.loop-change.at c.loop-change.invariant.so_far c.in_default.ensures

pub returns-then-stopped-clause-replayed : goal.returns-then-stopped-clause-replayed
returns-then-stopped-clause-replayed c =
    replayed_stop c.args.instance.now _ _ _ _ _ _ c.args.closed.now.trail c.args.from c.loop-change.at c.in-Some.change
    _
    c.loop-change.invariant.so_far c.in_ok-stopped.ensures.made c.if-stopped.true
