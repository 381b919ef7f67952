use Rattle.refutation_steps.proofs.Seeking.{sought_there, no_order_first}
use Rattle.refutation_steps.proofs.places.orders_from.Goals as goal

pub returns-then-is_there : goal.returns-then-is_there
returns-then-is_there c = sought_there c.args.instance.now c.args.state.now _ c.args.e _ c.is_there.result
    c.is_there.ensures c.if-is_there.true

pub returns-then-not-leads : goal.returns-then-not-leads
returns-then-not-leads c = no_order_first c.args.instance.now c.args.state.now _ c.args.e c.args.a c.leads.result
    c.leads.ensures c.if-not-leads.true
