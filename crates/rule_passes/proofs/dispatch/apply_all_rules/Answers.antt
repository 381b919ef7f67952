use Rattle.std.proofs.Common.{◌⊎◌}
use Rattle.packing_terms.specs.Exclusions.{excludes}
use Rattle.packing_terms.specs.Rules.{Rule}
use Rattle.packing_terms.specs.Places.{HasNoEmptyMask}
use Rattle.relation_table.specs.Masks.{mask_has}
use Rattle.edge_state.specs.Instances.{Composes}
use Rattle.edge_state.proofs.Worked.{worked_then, worked_kept, worked_lost_first}
use Rattle.rule_passes.specs.Reached.{IsReachedLater}
use Rattle.rule_passes.proofs.Quiet.{worked_pieces}
use Rattle.rule_passes.proofs.dispatch.apply_all_rules.Goals as goal

pub returns-then-spread_composed : goal.returns-then-spread_composed
returns-then-spread_composed g c = worked_lost_first _ _ _ _ _ _ c.if-spread_composed.true c.spread_composed.ensures

pub returns : goal.returns
returns g c =
    let instance = c.args.instance.now in
    let composed : Rule → Type 0 = λ rule. HasNoEmptyMask instance (excludes c.args.state.now.trail)
    × (Composes instance c.args.dim c.args.u c.args.v rule ⊎ Composes instance c.args.dim c.args.v c.args.u rule) in
    let later : Rule → Type 0 = IsReachedLater instance c.args.dim c.args.u c.args.v (mask_has c.args.left)
    (mask_has c.flip.result) (mask_has c.args.stale) in
    worked_pieces instance _ _ _ c.args.dim c.args.u c.args.v (mask_has c.args.left) (mask_has c.flip.result)
    (mask_has c.args.stale)
    c.requires.sizes.there c.requires.left c.flip.ensures.exact
    (worked_then instance _ _ _ _ composed later
    (worked_kept instance _ _ _ composed c.if-spread_composed.false c.spread_composed.ensures)
    c.spread_later.ensures)
