use Rattle.std.proofs.Common.{◌≡◌, ◌⊎◌, false}
use Rattle.packing_terms.specs.declared.Rel.TheVariants.{Overlap, After}
use Rattle.packing_terms.specs.Rules.{Rule}
use Rattle.relation_table.specs.Masks.{mask_has}
use Rattle.edge_state.proofs.Worked.{worked_as, worked_then}
use Rattle.edge_state.specs.Instances.{OrdersFirst, OrdersSecond}
use Rattle.rule_passes.proofs.prechecks.may_spread_ordered.Goals as goal

pub returns : goal.returns
returns g c h =
    let instance = c.args.instance.now in
    let j = c.args.dim in
    let p = c.args.p in
    let q = c.args.q in
    worked_as instance _ _ _ (λ (rule : Rule). OrdersFirst instance j p q rule ⊎ OrdersSecond instance j p q rule)
    (λ (rule : Rule). ((mask_has c.args.left Overlap ≡ false) × (mask_has c.args.left After ≡ false))
    × (OrdersFirst instance j p q rule ⊎ OrdersSecond instance j p q rule)) (λ rule e. e.1)
    (worked_then instance _ _ _ _ (λ (rule : Rule). OrdersFirst instance j p q rule)
    (λ (rule : Rule). OrdersSecond instance j p q rule) (c.may_order_first.ensures c.if-may_order_first.false)
    (c.may_order_second.ensures h))
