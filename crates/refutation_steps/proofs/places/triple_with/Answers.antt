use Rattle.std.proofs.Common.{sym, subst, ℕ, ◌<◌}
use Rattle.packing_terms.specs.Rules.Rule.{Triple}
use Rattle.refutation_steps.proofs.Going.{on_ok}
use Rattle.refutation_steps.proofs.Seeking.{sought_there, sought_step, sought_none}
use Rattle.refutation_steps.proofs.places.triple_with.Goals as goal

pub step_triple-requires-clause-boxes : goal.step_triple-requires-clause-boxes
step_triple-requires-clause-boxes c = c.are_three.ensures.yes c.if-not-are_three.false _ c.requires.placed.edge.first
    c.requires.placed.edge.second (subst (λ (k : ℕ). c.args.x < k) (sym c.requires.placed.boxes) c.requires.x)

pub returns-then-not-are_three : goal.returns-then-not-are_three
returns-then-not-are_three c = sought_none c.args.instance.now c.args.state.now _ c.args.e
    (Triple c.args.e.dim c.args.e.u c.args.e.v c.args.x) c.are_three.result (λ is. c.are_three.ensures.no _ is.1)
    c.if-not-are_three.true

pub returns-then-is_there : goal.returns-then-is_there
returns-then-is_there c = sought_there c.args.instance.now c.args.state.now _ c.args.e _ c.is_there.result
    c.is_there.ensures c.if-is_there.true

pub returns : goal.returns
returns c = on_ok c.step_triple.result (λ s. sought_step c.args.instance.now _ _ _ _
    (Triple c.args.e.dim c.args.e.u c.args.e.v c.args.x) c.args.e s) c.step_triple.ensures
