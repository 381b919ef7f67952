use Rattle.rule_passes.proofs.closing.close_in.Goals as goal

pub returns-clause-ended : goal.returns-clause-ended
returns-clause-ended g c = rw c.end_closing.ensures c.run_to_fixpoint-is_empty.ensures.ended
