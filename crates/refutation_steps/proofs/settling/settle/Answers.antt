use Rattle.packing_terms.specs.Exclusions.{excludes}
use Rattle.refutation_steps.proofs.Ended.{derived_from_held, settled_stable}
use Rattle.refutation_steps.proofs.settling.settle.Goals as goal

pub replay_on-requires-clause-derived : goal.replay_on-requires-clause-derived
replay_on-requires-clause-derived c =
    derived_from_held c.args.instance.now c.args.walk.now.given.trail c.close_known-end.new.state.trail
    (excludes c.args.walk.now.state.trail)
    c.close_known-end.ensures.extends c.requires.held

pub returns-in-Stable-clause-settled : goal.returns-in-Stable-clause-settled
returns-in-Stable-clause-settled c =
    settled_stable c.args.instance.now _ _ _ _ c.args.walk.now.given.trail _ c.mark.result _ c.if-stopped.false
    c.in_ok-stopped.ensures.replayed c.in-Stable.ensures.closed c.mark.ensures
