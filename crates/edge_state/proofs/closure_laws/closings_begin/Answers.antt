use Rattle.edge_state.proofs.Settled.{settled_first, settled_since, chained_since}
use Rattle.edge_state.proofs.Chained.{chained_first}
use Rattle.edge_state.proofs.closure_laws.closings_begin.Goals as goal

pub returns-clause-settled : goal.returns-clause-settled
returns-clause-settled c = settled_first

pub returns-clause-chained : goal.returns-clause-chained
returns-clause-chained c = chained_first

pub returns-clause-settled_since : goal.returns-clause-settled_since
returns-clause-settled_since c = settled_since

pub returns-clause-chained_since : goal.returns-clause-chained_since
returns-clause-chained_since c = chained_since
