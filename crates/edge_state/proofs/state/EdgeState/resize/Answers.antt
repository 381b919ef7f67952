use Rattle.std.proofs.Common.{◌≤◌, ◌∙◌, sym, ap, arith, cond, ltb}
use Rattle.edge_state.specs.ChainWeights.{PlainWeights}
use Rattle.edge_state.proofs.Histories.{of_none}
use Rattle.edge_state.proofs.Kept.{kept_new}
use Rattle.edge_state.proofs.Filled.{seconds_kept}
use Rattle.edge_state.proofs.state.EdgeState.resize.Goals as goal

pub fill_others-requires-clause-kept : goal.fill_others-requires-clause-kept
fill_others-requires-clause-kept c =
    let within : c.args.boxes ≤ c.self.inside.room = rw (← c.self.view_is) at c.requires.room in
    seconds_kept c.args.boxes c.self.inside.room _ within c.self.invariant.0.seconds

pub invariant_of-self : goal.invariant_of-self
invariant_of-self c =
    let within : c.args.boxes ≤ c.self.inside.room = rw (← c.self.view_is) at c.requires.room in
    rw c.clear.ensures.items (
      kept_new _ _ _ _ _ c.self.invariant.0.edges.dimensions c.requires.count within
          (omega (arith, c.self.invariant.0.trail_room, c.clear.ensures.capacity))
          (omega (arith, c.fill_others.ensures.length, c.self.invariant.0.row_room)) c.fill_others.ensures.each
          (c.fill_others.ensures.seconds ∙ (c.self.invariant.0.seconds
          ∙ ap (λ m. cond (ltb 64 c.self.inside.room) m 0) (sym c.fill_others.ensures.length))),
      of_none _ _ _ _ (ap (λ (k : PlainWeights). k.ends) c.forget.ensures),
    )
