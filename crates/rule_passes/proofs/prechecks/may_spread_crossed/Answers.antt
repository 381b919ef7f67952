use Rattle.edge_state.proofs.Worked.{worked_as}
use Rattle.rule_passes.proofs.prechecks.may_spread_crossed.Goals as goal

pub returns : goal.returns
returns g c h = worked_as _ _ _ _ _ _ (λ rule e. e.1) (c.may_order_crossed.ensures h)
