use Rattle.packing_terms.specs.declared.Rel.TheVariants.{Before, After}
use Rattle.packing_terms.specs.Rules.{Rule}
use Rattle.relation_table.specs.Masks.{mask_has}
use Rattle.edge_state.proofs.Worked.{worked_then, worked_kept, worked_lost_first}
use Rattle.rule_passes.specs.Reached.{IsReachedRest}
use Rattle.rule_passes.proofs.dispatch.spread_both.Goals as goal

pub returns-then-spread_from : goal.returns-then-spread_from
returns-then-spread_from g c = worked_lost_first _ _ _ _ _ _ c.if-spread_from.true c.spread_from.ensures

pub returns : goal.returns
returns g c =
    let instance = c.args.instance.now in
    let one : Rule → Type 0 = IsReachedRest instance c.args.dim c.args.u c.args.v (mask_has c.args.left)
    (mask_has c.args.stale Before) in
    let two : Rule → Type 0 = IsReachedRest instance c.args.dim c.args.v c.args.u (mask_has c.args.turned)
    (mask_has c.args.stale After) in
    worked_then instance _ _ _ _ one two (worked_kept instance _ _ _ one c.if-spread_from.false
    (rw c.has-forth.ensures at c.spread_from.ensures))
    (rw c.has-back.ensures at c.spread_from-2.ensures)
