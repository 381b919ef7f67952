use Rattle.refutation_steps.proofs.Seeking.{sought_there, no_cycle_first, no_cycle_last}
use Rattle.refutation_steps.proofs.places.cycles_from.Goals as goal

pub returns-then-is_there : goal.returns-then-is_there
returns-then-is_there c = sought_there c.args.instance.now c.args.state.now _ c.args.e _ c.is_there.result
    c.is_there.ensures c.if-is_there.true

pub returns-then-not-joins : goal.returns-then-not-joins
returns-then-not-joins c = no_cycle_first c.args.instance.now c.args.state.now _ c.args.e c.args.a c.joins.result
    c.joins.ensures c.if-not-joins.true

pub returns-then-not-joins-2 : goal.returns-then-not-joins-2
returns-then-not-joins-2 c = no_cycle_last c.args.instance.now c.args.state.now _ c.args.e c.args.a c.joins-2.result
    c.joins-2.ensures c.if-not-joins-2.true
