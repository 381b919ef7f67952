use Rattle.std.proofs.Common.{sym, subst, ℕ, ◌<◌}
use Rattle.packing_terms.specs.Rules.Rule.{Cycle}
use Rattle.refutation_steps.proofs.Going.{on_ok}
use Rattle.refutation_steps.proofs.Seeking.{sought_there, sought_step, sought_none}
use Rattle.refutation_steps.proofs.places.cycle_with.Goals as goal

pub step_cycle-requires-clause-boxes : goal.step_cycle-requires-clause-boxes
step_cycle-requires-clause-boxes c = c.are_four.ensures.yes c.if-not-are_four.false _
    (subst (λ (k : ℕ). c.args.a < k) (sym c.requires.placed.boxes) c.requires.a) c.requires.placed.edge.first
    (subst (λ (k : ℕ). c.args.c < k) (sym c.requires.placed.boxes) c.requires.c) c.requires.placed.edge.second

pub returns-then-not-are_four : goal.returns-then-not-are_four
returns-then-not-are_four c = sought_none c.args.instance.now c.args.state.now _ c.args.e
    (Cycle c.args.e.dim c.args.a c.args.e.u c.args.c c.args.e.v) c.are_four.result (λ is. c.are_four.ensures.no _ is.1)
    c.if-not-are_four.true

pub returns-then-is_there : goal.returns-then-is_there
returns-then-is_there c = sought_there c.args.instance.now c.args.state.now _ c.args.e _ c.is_there.result
    c.is_there.ensures c.if-is_there.true

pub returns : goal.returns
returns c = on_ok c.step_cycle.result (λ s. sought_step c.args.instance.now _ _ _ _
    (Cycle c.args.e.dim c.args.a c.args.e.u c.args.c c.args.e.v) c.args.e s) c.step_cycle.ensures
