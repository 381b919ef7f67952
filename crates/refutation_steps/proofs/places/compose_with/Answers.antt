use Rattle.std.proofs.Common.{sym, subst, ℕ, ◌<◌}
use Rattle.packing_terms.specs.Rules.Rule.{Compose}
use Rattle.refutation_steps.proofs.Going.{on_ok}
use Rattle.refutation_steps.proofs.Seeking.{sought_there, sought_step, sought_none}
use Rattle.refutation_steps.proofs.places.compose_with.Goals as goal

pub step_compose-requires-clause-boxes : goal.step_compose-requires-clause-boxes
step_compose-requires-clause-boxes c = c.are_three.ensures.yes c.if-not-are_three.false _ c.requires.placed.edge.first
    (subst (λ (k : ℕ). c.args.x < k) (sym c.requires.placed.boxes) c.requires.x) c.requires.placed.edge.second

pub returns-then-not-are_three : goal.returns-then-not-are_three
returns-then-not-are_three c = sought_none c.args.instance.now c.args.state.now _ c.args.e
    (Compose c.args.e.dim c.args.e.u c.args.x c.args.e.v) c.are_three.result (λ is. c.are_three.ensures.no _ is.1)
    c.if-not-are_three.true

pub returns-then-is_there : goal.returns-then-is_there
returns-then-is_there c = sought_there c.args.instance.now c.args.state.now _ c.args.e _ c.is_there.result
    c.is_there.ensures c.if-is_there.true

pub returns : goal.returns
returns c = on_ok c.step_compose.result (λ s. sought_step c.args.instance.now _ _ _ _
    (Compose c.args.e.dim c.args.e.u c.args.x c.args.e.v) c.args.e s) c.step_compose.ensures
