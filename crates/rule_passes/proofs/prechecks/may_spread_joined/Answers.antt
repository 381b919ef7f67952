use Rattle.packing_terms.specs.declared.Rel.TheVariants.{Before, After}
use Rattle.std.proofs.Common.{◌≡◌, ◌⊎◌, false}
use Rattle.packing_terms.specs.Rules.{Rule}
use Rattle.relation_table.specs.Masks.{mask_has}
use Rattle.edge_state.specs.Instances.{Cycles}
use Rattle.edge_state.proofs.Worked.{worked_as, worked_then}
use Rattle.rule_passes.proofs.prechecks.may_spread_joined.Goals as goal

pub returns : goal.returns
returns g c h =
    let instance = c.args.instance.now in
    let one : Rule → Type 0 = Cycles instance c.args.dim c.args.u c.args.v in
    let two : Rule → Type 0 = Cycles instance c.args.dim c.args.v c.args.u in
    worked_as instance _ _ _ (λ (rule : Rule). one rule ⊎ two rule)
    (λ (rule : Rule). ((mask_has c.args.left Before ≡ false) × (mask_has c.args.left After ≡ false))
    × (one rule ⊎ two rule)) (λ rule e. e.1)
    (worked_then instance _ _ _ _ one two (c.may_cycle.ensures c.if-may_cycle.false) (c.may_cycle-2.ensures h))
