use Rattle.std.proofs.Common.{◌≡◌, ◌⊎◌, false}
use Rattle.packing_terms.specs.declared.Rel.TheVariants.{Overlap, Before, After}
use Rattle.packing_terms.specs.Rules.{Rule}
use Rattle.relation_table.specs.Masks.{mask_has}
use Rattle.edge_state.specs.Instances.{Aparts, Chords}
use Rattle.edge_state.proofs.Worked.{worked_then}
use Rattle.rule_passes.specs.Reached.{IsReachedBoth, IsReachedNear}
use Rattle.rule_passes.proofs.dispatch.propagate_if_any.Goals as goal

pub returns-then-may_spread_both : goal.returns-then-may_spread_both
returns-then-may_spread_both g c =
    let instance = c.args.instance.now in
    let chorded : Rule → Type 0 = λ rule. ((mask_has c.args.left Overlap ≡ false)
    × (mask_has c.args.stale Overlap ≡ false))
    × (Chords instance c.args.dim c.args.u c.args.v rule ⊎ Chords instance c.args.dim c.args.v c.args.u rule) in
    let rest : Rule → Type 0 = IsReachedNear instance c.args.dim c.args.u c.args.v (mask_has c.args.left)
    (mask_has c.args.turned) (mask_has c.args.stale) in
    worked_then instance _ _ _ _ chorded rest (c.may_spread_chords.ensures c.if-may_spread_chords.false)
    c.spread_near.ensures

pub returns : goal.returns
returns g c =
    let instance = c.args.instance.now in
    let chorded : Rule → Type 0 = λ rule. ((mask_has c.args.left Overlap ≡ false)
    × (mask_has c.args.stale Overlap ≡ false))
    × (Chords instance c.args.dim c.args.u c.args.v rule ⊎ Chords instance c.args.dim c.args.v c.args.u rule) in
    let beside : Rule → Type 0 = λ rule. ((mask_has c.args.left Before ≡ false) × (mask_has c.args.left After ≡ false))
    × Aparts instance c.args.dim c.args.u c.args.v rule in
    let both : Rule → Type 0 = IsReachedBoth instance c.args.dim c.args.u c.args.v (mask_has c.args.left)
    (mask_has c.args.turned) (mask_has c.args.stale) in
    let rest : Rule → Type 0 = IsReachedNear instance c.args.dim c.args.u c.args.v (mask_has c.args.left)
    (mask_has c.args.turned) (mask_has c.args.stale) in
    worked_then instance _ _ _ _ chorded rest (c.may_spread_chords.ensures c.if-may_spread_chords.false)
    (worked_then instance _ _ _ _ both beside (c.may_spread_both.ensures c.if-may_spread_both.false)
    c.apply_apart_if_joined.ensures)
