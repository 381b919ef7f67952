use Rattle.refutation_steps.proofs.Going.{on_ok}
use Rattle.refutation_steps.proofs.Seeking.{sought_plain}
use Rattle.refutation_steps.proofs.places.seek_plain.Goals as goal

pub returns : goal.returns
returns c = on_ok c.seek_order.result
    (λ s. sought_plain c.args.instance.now c.args.e _ _ _ _ _ _ _ _ _ _ _ _ _ _ c.in_ok-seek_pair.ensures
    c.in_ok-seek_apart.ensures c.in_ok-seek_triple.ensures c.in_ok-seek_compose.ensures c.in_ok-seek_cycle.ensures s)
    c.seek_order.ensures
