use Rattle.std.proofs.Common.{◌≡◌, false}
use Rattle.packing_terms.specs.declared.Rel.TheVariants.{Before, After}
use Rattle.packing_terms.specs.Rules.{Rule}
use Rattle.relation_table.specs.Masks.{mask_has}
use Rattle.edge_state.specs.Instances.{Aparts}
use Rattle.edge_state.proofs.Worked.{worked_then, worked_kept, worked_lost_first}
use Rattle.rule_passes.specs.Reached.{IsReachedBoth}
use Rattle.rule_passes.proofs.dispatch.spread_near.Goals as goal

pub returns-then-spread_both : goal.returns-then-spread_both
returns-then-spread_both g c = worked_lost_first _ _ _ _ _ _ c.if-spread_both.true c.spread_both.ensures

pub returns : goal.returns
returns g c =
    let instance = c.args.instance.now in
    let beside : Rule → Type 0 = λ rule. ((mask_has c.args.left Before ≡ false) × (mask_has c.args.left After ≡ false))
    × Aparts instance c.args.dim c.args.u c.args.v rule in
    let both : Rule → Type 0 = IsReachedBoth instance c.args.dim c.args.u c.args.v (mask_has c.args.left)
    (mask_has c.args.turned) (mask_has c.args.stale) in
    worked_then instance _ _ _ _ both beside
    (worked_kept instance _ _ _ both c.if-spread_both.false c.spread_both.ensures) c.apply_apart_if_joined.ensures
