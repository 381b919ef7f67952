use Rattle.std.proofs.Common.{sym, subst, ℕ, ◌<◌}
use Rattle.packing_terms.specs.Rules.Rule.{Order}
use Rattle.refutation_steps.proofs.Going.{on_ok}
use Rattle.refutation_steps.proofs.Seeking.{sought_there, sought_step, sought_none}
use Rattle.refutation_steps.proofs.places.order_with.Goals as goal

pub step_order-requires-clause-boxes : goal.step_order-requires-clause-boxes
step_order-requires-clause-boxes c = c.are_four.ensures.yes c.if-not-are_four.false _
    (subst (λ (k : ℕ). c.args.a < k) (sym c.requires.placed.boxes) c.requires.a) c.requires.placed.edge.second
    c.requires.placed.edge.first (subst (λ (k : ℕ). c.args.d < k) (sym c.requires.placed.boxes) c.requires.d)

pub returns-then-not-are_four : goal.returns-then-not-are_four
returns-then-not-are_four c = sought_none c.args.instance.now c.args.state.now _ c.args.e
    (Order c.args.e.dim c.args.a c.args.e.v c.args.e.u c.args.d) c.are_four.result (λ is. c.are_four.ensures.no _ is.1)
    c.if-not-are_four.true

pub returns-then-is_there : goal.returns-then-is_there
returns-then-is_there c = sought_there c.args.instance.now c.args.state.now _ c.args.e _ c.is_there.result
    c.is_there.ensures c.if-is_there.true

pub returns : goal.returns
returns c = on_ok c.step_order.result (λ s. sought_step c.args.instance.now _ _ _ _
    (Order c.args.e.dim c.args.a c.args.e.v c.args.e.u c.args.d) c.args.e s) c.step_order.ensures
