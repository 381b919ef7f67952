use Rattle.edge_state.proofs.Reached.{settled_next}
use Rattle.edge_state.proofs.Chained.{chained_next}
use Rattle.edge_state.proofs.closure_laws.changes_are_propagated.Goals as goal

pub returns-clause-settled : goal.returns-clause-settled
returns-clause-settled c = settled_next

pub returns-clause-chained : goal.returns-clause-chained
returns-clause-chained c = chained_next
