use Rattle.std.proofs.Common.{◌≡◌, ◌⊎◌, false}
use Rattle.packing_terms.specs.declared.Rel.TheVariants.{Overlap}
use Rattle.packing_terms.specs.Rules.{Rule}
use Rattle.relation_table.specs.Masks.{mask_has}
use Rattle.edge_state.specs.Instances.{Triples}
use Rattle.edge_state.proofs.Worked.{worked_then, worked_kept, worked_lost_first}
use Rattle.rule_passes.specs.Reached.{IsReachedChorded}
use Rattle.rule_passes.proofs.dispatch.spread_later.Goals as goal

pub returns-then-spread_apart : goal.returns-then-spread_apart
returns-then-spread_apart g c = worked_lost_first _ _ _ _ _ _ c.if-spread_apart.true c.spread_apart.ensures

pub returns : goal.returns
returns g c =
    let instance = c.args.instance.now in
    let apart : Rule → Type 0 = λ rule. ((mask_has c.args.left Overlap ≡ false)
    × (mask_has c.args.stale Overlap ≡ false))
    × (Triples instance c.args.dim c.args.u c.args.v rule ⊎ Triples instance c.args.dim c.args.v c.args.u rule) in
    let more : Rule → Type 0 = IsReachedChorded instance c.args.dim c.args.u c.args.v (mask_has c.args.left)
    (mask_has c.args.turned) (mask_has c.args.stale) in
    worked_then instance _ _ _ _ apart more
    (worked_kept instance _ _ _ apart c.if-spread_apart.false c.spread_apart.ensures) c.propagate_if_any.ensures
