use Rattle.relation_table.specs.Masks.{mask_has}
use Rattle.rule_passes.proofs.Quiet.{none_both}
use Rattle.rule_passes.proofs.prechecks.may_spread_both.Goals as goal

pub returns : goal.returns
returns g c h =
    none_both c.args.instance.now _ c.args.dim c.args.u c.args.v (mask_has c.args.left) (mask_has c.args.turned)
    (mask_has c.args.stale) c.requires.turned (c.may_spread_joined.ensures c.if-may_spread_joined.false)
    (c.may_spread_ordered.ensures c.if-may_spread_ordered.false)
    (rw c.has-forth.ensures at (c.may_spread_crossed.ensures c.if-may_spread_crossed.false))
    (c.may_spread_ordered-2.ensures c.if-may_spread_ordered-2.false)
    (rw c.has-back.ensures at (c.may_spread_crossed-2.ensures h))
