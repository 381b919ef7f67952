use Rattle.std.proofs.Common.{◌≡◌, sym, ◌∙◌, true}
use Rattle.std.proofs.lemmas.Bool.{true≢false}
use Rattle.packing_terms.specs.declared.Rel.TheVariants.{Overlap}
use Rattle.packing_terms.specs.Packing.{box_count}
use Rattle.packing_terms.specs.Exclusions.{excludes}
use Rattle.packing_terms.specs.Rules.{Order}
use Rattle.packing_terms.proofs.Sets.{excludes_symmetric}
use Rattle.edge_state.specs.BitRows.{row_has}
use Rattle.edge_state.proofs.Kept.{row_shut}
use Rattle.edge_state.proofs.Members.{none_worked, covered_named}
use Rattle.edge_state.proofs.Needed.{order_shut}
use Rattle.edge_state.proofs.Worked.{worked_none}
use Rattle.rule_passes.proofs.orders.may_order_crossed.Goals as goal

pub returns-then-not-has : goal.returns-then-not-has
returns-then-not-has g c h =
    worked_none c.args.instance.now _ _
    (λ rule e. covered_named c.args.instance.now _ rule (Order c.args.dim c.args.a e.0 e.2.0 c.args.d) e.2.2
    (order_shut c.args.instance.now _ _ c.args.dim c.args.a e.0 e.2.0 c.args.d
    (λ is p ad bd ac. absurd (true≢false (sym shut ∙ ad)))))
  where
    shut : excludes c.args.state.now.trail c.args.dim c.args.a c.args.d Overlap ≡ true
    shut = row_shut (box_count c.args.instance.now) c.args.dim c.args.a c.args.d
        (excludes c.args.state.now.trail) Overlap _ c.requires.d c.requires.distinct
        ((rw c.requires.sizes.same_boxes at c.row_in-near.ensures) c.args.d) (sym c.has.ensures ∙ c.if-not-has.true)

pub returns : goal.returns
returns g c h =
    none_worked c.args.instance.now _ (box_count c.args.instance.now) (row_has c.seconds_after-seconds.result)
    (λ x y. Order c.args.dim c.args.a x y c.args.d)
    (c.may_order_seconds.ensures h)
    (λ x small off y. order_shut c.args.instance.now _ _ c.args.dim c.args.a x y c.args.d
    (λ is p ad bd ac. absurd (true≢false (sym
    (excludes_symmetric c.args.state.now.trail c.args.dim c.args.d x Overlap
    (c.seconds_after-seconds.ensures.others x small is.1.1.0 (λ e. is.1.2.1.1.0 (sym e)) off p.0)) ∙ bd))))
