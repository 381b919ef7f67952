use Rattle.edge_state.proofs.Ends.{ended_closure, ended_conflict}
use Rattle.edge_state.proofs.closure_laws.ends_are_closures.Goals as goal

pub returns-clause-closure : goal.returns-clause-closure
returns-clause-closure c = ended_closure

pub returns-clause-conflict : goal.returns-clause-conflict
returns-clause-conflict c = ended_conflict
