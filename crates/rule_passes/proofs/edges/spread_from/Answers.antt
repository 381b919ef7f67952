use Rattle.std.proofs.Common.{◌≡◌, ◌⊎◌, false}
use Rattle.packing_terms.specs.declared.Rel.TheVariants.{Overlap, Before, After}
use Rattle.packing_terms.specs.Rules.{Rule}
use Rattle.relation_table.specs.Masks.{mask_has}
use Rattle.edge_state.specs.Instances.{Cycles, OrdersCrossed}
use Rattle.edge_state.proofs.Worked.{worked_then, worked_lost, worked_lost_first, worked_kept}
use Rattle.rule_passes.specs.Reached.{IsReachedOrdered}
use Rattle.rule_passes.proofs.edges.spread_from.Goals as goal

pub returns-then-spread_joined : goal.returns-then-spread_joined
returns-then-spread_joined g c = worked_lost_first _ _ _ _ _ _ c.if-spread_joined.true c.spread_joined.ensures

pub returns-then-spread_ordered : goal.returns-then-spread_ordered
returns-then-spread_ordered g c =
    let left = mask_has c.args.left in
    let joined : Rule → Type 0 = λ rule. ((left Before ≡ false) × (left After ≡ false))
    × Cycles c.args.instance.now c.args.dim c.args.p c.args.q rule in
    worked_lost c.args.instance.now _ _ _ _ joined _ _ c.if-spread_ordered.true
    (worked_kept c.args.instance.now _ _ _ joined c.if-spread_joined.false c.spread_joined.ensures)
    c.spread_ordered.ensures

pub returns : goal.returns
returns g c =
    let instance = c.args.instance.now in
    let left = mask_has c.args.left in
    let joined : Rule → Type 0 = λ rule. ((left Before ≡ false) × (left After ≡ false))
    × Cycles instance c.args.dim c.args.p c.args.q rule in
    let ordered : Rule → Type 0 = λ rule. ((left Overlap ≡ false) × (left After ≡ false))
    × IsReachedOrdered instance c.args.dim c.args.p c.args.q rule in
    let crossed : Rule → Type 0 = λ rule. ((left Before ≡ false) × (c.args.is_stale ≡ false))
    × OrdersCrossed instance c.args.dim c.args.p c.args.q rule in
    worked_then instance _ _ _ _ (λ (rule : Rule). joined rule ⊎ ordered rule) crossed
    (worked_then instance _ _ _ _ joined ordered
    (worked_kept instance _ _ _ joined c.if-spread_joined.false c.spread_joined.ensures)
    (worked_kept instance _ _ _ ordered c.if-spread_ordered.false c.spread_ordered.ensures))
    c.spread_crossed.ensures
