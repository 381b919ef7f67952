use Rattle.std.proofs.Common.{◌∙◌}
use Rattle.edge_state.proofs.Kept.{by_rel}
use Rattle.edge_state.proofs.state.EdgeState.mask_in.Goals as goal

pub returns : goal.returns
returns g c =
    by_rel _ _ (c.mask_of.ensures.overlap ∙ c.allows-overlap.ensures)
    (c.mask_of.ensures.before ∙ c.allows-before.ensures)
    (c.mask_of.ensures.after ∙ c.allows-after.ensures)
