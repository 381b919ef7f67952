use Rattle.std.proofs.Common.{◌≡◌, ◌⊎◌, false}
use Rattle.packing_terms.specs.declared.Rel.TheVariants.{Overlap}
use Rattle.packing_terms.specs.Rules.{Rule}
use Rattle.relation_table.specs.Masks.{mask_has}
use Rattle.edge_state.specs.Instances.{Chords}
use Rattle.edge_state.proofs.Worked.{worked_then, worked_kept, worked_lost_first}
use Rattle.rule_passes.specs.Reached.{IsReachedNear}
use Rattle.rule_passes.proofs.dispatch.spread_chorded.Goals as goal

pub returns-then-spread_chords : goal.returns-then-spread_chords
returns-then-spread_chords g c = worked_lost_first _ _ _ _ _ _ c.if-spread_chords.true c.spread_chords.ensures

pub returns : goal.returns
returns g c =
    let instance = c.args.instance.now in
    let chorded : Rule → Type 0 = λ rule. ((mask_has c.args.left Overlap ≡ false)
    × (mask_has c.args.stale Overlap ≡ false))
    × (Chords instance c.args.dim c.args.u c.args.v rule ⊎ Chords instance c.args.dim c.args.v c.args.u rule) in
    let rest : Rule → Type 0 = IsReachedNear instance c.args.dim c.args.u c.args.v (mask_has c.args.left)
    (mask_has c.args.turned) (mask_has c.args.stale) in
    worked_then instance _ _ _ _ chorded rest
    (worked_kept instance _ _ _ chorded c.if-spread_chords.false c.spread_chords.ensures) c.spread_near.ensures
