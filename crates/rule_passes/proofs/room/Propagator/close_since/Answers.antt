use Rattle.edge_state.proofs.Settled.{settled_since, chained_since}
use Rattle.rule_passes.proofs.room.Propagator.close_since.Goals as goal

pub close_from-requires-clause-settled : goal.close_from-requires-clause-settled
close_from-requires-clause-settled c = settled_since _ _ _ c.requires.stable c.requires.full

pub close_from-requires-clause-chained : goal.close_from-requires-clause-chained
close_from-requires-clause-chained c i h = chained_since _ _ _ _ c.requires.stable
