use Rattle.packing_terms.specs.Packing.{box_count}
use Rattle.packing_terms.specs.Rules.{Order}
use Rattle.edge_state.specs.BitRows.{row_has}
use Rattle.edge_state.proofs.Members.{none_worked}
use Rattle.edge_state.proofs.Needed.{order_shut, one_of_neither}
use Rattle.rule_passes.proofs.orders.may_order_first.Goals as goal

pub returns : goal.returns
returns g c h =
    none_worked c.args.instance.now _ (box_count c.args.instance.now) (row_has c.near_both_without-lasts.result)
    (λ x y. Order c.args.dim c.args.a c.args.b y x)
    (c.may_order_lasts.ensures h)
    (λ x small off y. order_shut c.args.instance.now _ _ c.args.dim c.args.a c.args.b y x
    (λ is p ad bd ac. absurd (one_of_neither _ _
    (c.near_both_without-lasts.ensures.others x small is.1.1.1.1.0 is.1.2.1.1.0 off p.2) ad bd)))
