use Rattle.refutation_check.proofs.Ends.{ended}
use Rattle.refutation_check.proofs.closing.close_since.Goals as goal

pub returns-clause-ended : goal.returns-clause-ended
returns-clause-ended c E there back =
    ended _ E _ _ _ c.close_since.ensures.extends there back c.close_since.ensures.ended
