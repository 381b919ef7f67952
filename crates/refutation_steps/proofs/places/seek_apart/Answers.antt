use Rattle.packing_terms.specs.Rules.Rule.{Apart}
use Rattle.refutation_steps.proofs.Going.{on_ok}
use Rattle.refutation_steps.proofs.Seeking.{sought_there, sought_step}
use Rattle.refutation_steps.proofs.places.seek_apart.Goals as goal

pub returns-then-is_there : goal.returns-then-is_there
returns-then-is_there c = sought_there c.args.instance.now c.args.state.now _ c.args.e _ c.is_there.result
    c.is_there.ensures c.if-is_there.true

pub returns : goal.returns
returns c = on_ok c.step_apart.result (λ s. sought_step c.args.instance.now _ _ _ _
    (Apart c.args.e.dim c.args.e.u c.args.e.v) c.args.e s) c.step_apart.ensures
