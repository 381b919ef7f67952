use Rattle.refutation_steps.proofs.Going.{on_ok}
use Rattle.refutation_steps.proofs.Taken.{settled_as, order_taken, order_goes, order_named}
use Rattle.refutation_steps.proofs.taking.take_order.Goals as goal

pub unreachable-requires : goal.unreachable-requires
unreachable-requires c =
    order_goes c.args.instance.now c.args.walk.now c.settle.new.walk c.args.closed c.settle.ensures.pending
    c.settle.ensures.extends c.requires.at.0 c.args.dim c.args.u c.args.v
    (settled_as c.args.instance.now c.args.walk.now c.settle.new.walk _ _ c.in_default.is c.in_ok-mark.ensures.settled)
    c.requires.at.1

pub split_order-requires-clause-dim : goal.split_order-requires-clause-dim
split_order-requires-clause-dim c = (order_named c.args.instance.now c.args.walk.now c.args.closed c.requires.at.0
    c.args.dim c.args.u c.args.v c.requires.at.1).dim_from

pub returns : goal.returns
returns c = on_ok c.split_order.result
    (λ w. order_taken c.args.instance.now c.args.walk.now c.settle.new.walk c.args.closed c.settle.ensures.pending
    c.settle.ensures.extends c.split_order.new.walk c.in-Some.mark
    c.args.dim c.args.u c.args.v c.in_ok-mark.ensures.sizes
    (settled_as c.args.instance.now c.args.walk.now c.settle.new.walk _ _ c.in-Some.is c.in_ok-mark.ensures.settled)
    w)
    c.split_order.ensures
