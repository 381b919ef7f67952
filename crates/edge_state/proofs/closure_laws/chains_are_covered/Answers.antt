use Rattle.edge_state.proofs.Chained.{chained_heaviest}
use Rattle.edge_state.proofs.closure_laws.chains_are_covered.Goals as goal

pub returns : goal.returns
returns c = chained_heaviest
