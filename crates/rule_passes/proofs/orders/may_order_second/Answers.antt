use Rattle.std.proofs.Common.{sym}
use Rattle.packing_terms.specs.declared.Rel.TheVariants.{Overlap, Before}
use Rattle.packing_terms.specs.Packing.{box_count}
use Rattle.packing_terms.specs.Rules.{Order}
use Rattle.packing_terms.proofs.Sets.{excludes_symmetric}
use Rattle.packing_terms.proofs.Steps.{open_mirrored}
use Rattle.edge_state.specs.BitRows.{row_has}
use Rattle.edge_state.proofs.Members.{none_worked}
use Rattle.edge_state.proofs.Needed.{order_shut, one_of_neither}
use Rattle.rule_passes.proofs.orders.may_order_second.Goals as goal

pub returns : goal.returns
returns g c h =
    none_worked c.args.instance.now _ (box_count c.args.instance.now) (row_has c.near_both_without-firsts.result)
    (λ x y. Order c.args.dim x y c.args.c c.args.d)
    (c.may_order_firsts.ensures h)
    (λ x small off y. order_shut c.args.instance.now _ _ c.args.dim x y c.args.c c.args.d
    (λ is p ad bd ac. absurd (one_of_neither _ _
    (c.near_both_without-firsts.ensures.others x small (λ e. is.1.1.1.1.0 (sym e)) (λ e. is.1.1.1.0 (sym e)) off
    (excludes_symmetric c.args.state.now.trail c.args.dim x c.args.d Before p.2))
    (open_mirrored c.args.state.now.trail c.args.dim x c.args.d Overlap ad)
    (open_mirrored c.args.state.now.trail c.args.dim x c.args.c Overlap ac))))
