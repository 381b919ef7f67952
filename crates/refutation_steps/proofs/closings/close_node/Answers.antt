use Rattle.std.proofs.Common.{refl, subst, Option}
use Rattle.refutation_steps.specs.declared.closings.Node.{Node}
use Rattle.refutation_steps.specs.Traced.{IsEntered}
use Rattle.refutation_steps.proofs.Tracking.{closes_node}
use Rattle.refutation_steps.proofs.closings.close_node.Goals as goal

pub returns : goal.returns
returns c =
    let entered = subst (λ (o : Option Node). IsEntered c.args.instance.now c.enter_node.new.walk o) c.in-Some.is
    c.in_ok-node.ensures in
    closes_node c.args.instance.now c.enter_node.new.walk _ c.close_known-end.result entered.0
    c.close_known-end.ensures.closer refl c.close_known-end.ensures.sizes
    c.close_known-end.ensures.extends c.close_known-end.ensures.closed
