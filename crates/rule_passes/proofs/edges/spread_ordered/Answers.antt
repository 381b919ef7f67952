use Rattle.std.proofs.Common.{arith, ◌≡◌, ◌⊎◌, false}
use Rattle.packing_terms.specs.declared.Rel.TheVariants.{Overlap, After}
use Rattle.packing_terms.specs.Rules.{Rule}
use Rattle.relation_table.specs.Masks.{mask_has}
use Rattle.edge_state.proofs.Worked.{worked_as, worked_then, worked_kept, sizes_worked}
use Rattle.edge_state.specs.Instances.{OrdersFirst, OrdersSecond}
use Rattle.rule_passes.proofs.edges.spread_ordered.Goals as goal

pub orders_second-requires : goal.orders_second-requires
orders_second-requires g c = (
  omega (arith, c.requires.words.0.1),
  (
    c.requires.words,
    (
      sizes_worked _ _ _ _ _ _ (worked_kept c.args.instance.now _ _ _
          (λ (rule : Rule). OrdersFirst c.args.instance.now c.args.dim c.args.p c.args.q rule) c.if-orders_first.false
          c.orders_first.ensures) c.requires.sizes,
      (
        c.requires.p,
        (
          c.requires.q,
          (
            c.requires.distinct,
            c.requires.all,
          ),
        ),
      ),
    ),
  ),
)

pub returns : goal.returns
returns g c =
    let instance = c.args.instance.now in
    let j = c.args.dim in
    let p = c.args.p in
    let q = c.args.q in
    let first = worked_kept instance _ _ _ (λ (rule : Rule). OrdersFirst instance j p q rule) c.if-orders_first.false
    c.orders_first.ensures in
    worked_as instance _ _ _ (λ (rule : Rule). OrdersFirst instance j p q rule ⊎ OrdersSecond instance j p q rule)
    (λ (rule : Rule). ((mask_has c.args.left Overlap ≡ false) × (mask_has c.args.left After ≡ false))
    × (OrdersFirst instance j p q rule ⊎ OrdersSecond instance j p q rule)) (λ rule e. e.1)
    (worked_then instance _ _ _ _ (λ (rule : Rule). OrdersFirst instance j p q rule)
    (λ (rule : Rule). OrdersSecond instance j p q rule) first c.orders_second.ensures)
