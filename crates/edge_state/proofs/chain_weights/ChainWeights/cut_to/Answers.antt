use Rattle.std.proofs.Common.{◌≤◌, ap, arith, sym}
use Rattle.edge_state.specs.ChainWeights.{PlainWeights}
use Rattle.edge_state.proofs.Histories.{of_cut, of_popped_any}
use Rattle.edge_state.proofs.chain_weights.ChainWeights.cut_to.Goals as goal

pub returns-then-not-is_before : goal.returns-then-not-is_before
returns-then-not-is_before c d n es l h =
    let within : c.in-Some.end.mark ≤ c.args.to = grind (arith, c.if-not-is_before.ensures) in
    of_cut d n c.args.to es c.loop-end.self c.in-Some.end l c.in-Some.ensures within (c.loop-end.invariant d n es h)

pub loop-end-preserved : goal.loop-end-preserved
loop-end-preserved c d n es h =
    let before = c.loop-end.invariant d n es h in
    let is = ap (λ (k : PlainWeights). k.ends) (sym c.self.view_is) in
    rw (← c.self.view_is) at (of_popped_any d n es c.loop-end.self c.pop.result c.self.inside.ends.items c.pop.new.self.items is c.pop.ensures.items before)
