use Rattle.edge_state.proofs.Settled.{settled_transitive, stable_settled}
use Rattle.edge_state.proofs.closure_laws.settled_lists_are_stable.Goals as goal

pub returns-clause-transitive : goal.returns-clause-transitive
returns-clause-transitive c = settled_transitive

pub returns-clause-stable : goal.returns-clause-stable
returns-clause-stable c = stable_settled
