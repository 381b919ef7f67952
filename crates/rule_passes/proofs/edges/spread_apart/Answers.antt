use Rattle.edge_state.proofs.Worked.{worked_as}
use Rattle.rule_passes.proofs.edges.spread_apart.Goals as goal

pub returns : goal.returns
returns g c = worked_as _ _ _ _ _ _ (λ rule e. e.1) c.triples.ensures
