use Rattle.std.proofs.Common.{◌≡◌, ◌⊎◌, false}
use Rattle.packing_terms.specs.declared.Rel.TheVariants.{Overlap}
use Rattle.packing_terms.specs.Exclusions.{excludes}
use Rattle.packing_terms.specs.Rules.{Rule}
use Rattle.packing_terms.specs.Places.{HasNoEmptyMask}
use Rattle.relation_table.specs.Masks.{mask_has}
use Rattle.edge_state.specs.Instances.{Composes, Triples}
use Rattle.edge_state.proofs.Worked.{worked_then}
use Rattle.rule_passes.specs.Reached.{IsReachedChorded, IsReachedLater}
use Rattle.rule_passes.proofs.Quiet.{worked_pieces}
use Rattle.rule_passes.proofs.dispatch.propagate_mask.Goals as goal

pub returns-then-may_spread_apart : goal.returns-then-may_spread_apart
returns-then-may_spread_apart g c =
    let instance = c.args.instance.now in
    let composed : Rule → Type 0 = λ rule. HasNoEmptyMask instance (excludes c.args.state.now.trail)
    × (Composes instance c.args.dim c.args.u c.args.v rule ⊎ Composes instance c.args.dim c.args.v c.args.u rule) in
    let later : Rule → Type 0 = IsReachedLater instance c.args.dim c.args.u c.args.v (mask_has c.args.left)
    (mask_has c.flip-turned.result) (mask_has c.args.stale) in
    worked_pieces instance _ _ _ c.args.dim c.args.u c.args.v (mask_has c.args.left) (mask_has c.flip-turned.result)
    (mask_has c.args.stale)
    c.requires.sizes.there c.requires.left c.flip-turned.ensures.exact
    (worked_then instance _ _ _ _ composed later (c.may_compose.ensures c.if-may_compose.false)
    c.spread_later.ensures)

pub returns : goal.returns
returns g c =
    let instance = c.args.instance.now in
    let composed : Rule → Type 0 = λ rule. HasNoEmptyMask instance (excludes c.args.state.now.trail)
    × (Composes instance c.args.dim c.args.u c.args.v rule ⊎ Composes instance c.args.dim c.args.v c.args.u rule) in
    let apart : Rule → Type 0 = λ rule. ((mask_has c.args.left Overlap ≡ false)
    × (mask_has c.args.stale Overlap ≡ false))
    × (Triples instance c.args.dim c.args.u c.args.v rule ⊎ Triples instance c.args.dim c.args.v c.args.u rule) in
    let more : Rule → Type 0 = IsReachedChorded instance c.args.dim c.args.u c.args.v (mask_has c.args.left)
    (mask_has c.flip-turned.result) (mask_has c.args.stale) in
    let later : Rule → Type 0 = IsReachedLater instance c.args.dim c.args.u c.args.v (mask_has c.args.left)
    (mask_has c.flip-turned.result) (mask_has c.args.stale) in
    worked_pieces instance _ _ _ c.args.dim c.args.u c.args.v (mask_has c.args.left) (mask_has c.flip-turned.result)
    (mask_has c.args.stale)
    c.requires.sizes.there c.requires.left c.flip-turned.ensures.exact
    (worked_then instance _ _ _ _ composed later (c.may_compose.ensures c.if-may_compose.false)
    (worked_then instance _ _ _ _ apart more (c.may_spread_apart.ensures c.if-may_spread_apart.false)
    c.propagate_if_any.ensures))
