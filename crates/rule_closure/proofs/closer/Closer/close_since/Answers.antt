use Rattle.rule_closure.proofs.Closings.{closed_ended}
use Rattle.rule_closure.proofs.closer.Closer.close_since.Goals as goal

pub returns-clause-closed : goal.returns-clause-closed
returns-clause-closed c = closed_ended _ _ _ _ _ c.close_since-is_empty.ensures.extends
    c.close_since-is_empty.ensures.ended c.outcome_of.ensures
