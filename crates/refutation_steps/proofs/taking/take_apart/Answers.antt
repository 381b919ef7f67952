use Rattle.refutation_steps.proofs.Going.{on_ok}
use Rattle.refutation_steps.proofs.Taken.{settled_as, apart_taken, apart_goes, apart_named}
use Rattle.refutation_steps.proofs.taking.take_apart.Goals as goal

pub unreachable-requires : goal.unreachable-requires
unreachable-requires c =
    apart_goes c.args.instance.now c.args.walk.now c.settle.new.walk c.args.closed c.settle.ensures.pending
    c.settle.ensures.extends c.requires.at.0 c.args.dim c.args.u c.args.v
    (settled_as c.args.instance.now c.args.walk.now c.settle.new.walk _ _ c.in_default.is c.in_ok-mark.ensures.settled)
    c.requires.at.1

pub split_apart-requires-clause-dim : goal.split_apart-requires-clause-dim
split_apart-requires-clause-dim c = (apart_named c.args.instance.now c.args.walk.now c.args.closed c.requires.at.0
    c.args.dim c.args.u c.args.v c.requires.at.1).dim_from

pub returns : goal.returns
returns c = on_ok c.split_apart.result
    (λ w. apart_taken c.args.instance.now c.args.walk.now c.settle.new.walk c.args.closed c.settle.ensures.pending
    c.settle.ensures.extends c.split_apart.new.walk c.in-Some.mark
    c.args.dim c.args.u c.args.v c.in_ok-mark.ensures.sizes
    (settled_as c.args.instance.now c.args.walk.now c.settle.new.walk _ _ c.in-Some.is c.in_ok-mark.ensures.settled)
    w)
    c.split_apart.ensures
