use Rattle.std.proofs.Common.{◌∙◌, inl, inr, ap, arith}
use Rattle.pack_command.specs.Stops.{stop_status}
use Rattle.pack_command.proofs.Causes.{answer_counts, stop_reads, stop_writes, stop_unanswered, verdict_answers}
use Rattle.pack_command.proofs.Causes.{is_verdict_status, unjudged_within, unjudged_past}
use Rattle.pack_command.proofs.Checked.{judged_exactly, judged_claimed, found_within}
use Rattle.pack_command.proofs.checking.check_stream.Goals as goal

pub returns-in-Ok-clause-exactly : goal.returns-in-Ok-clause-exactly
returns-in-Ok-clause-exactly g c = λ bytes stated verdict. judged_exactly _ _ _ _ _ bytes stated c.in-Ok.ensures.judged

pub returns-in-Ok-clause-completes : goal.returns-in-Ok-clause-completes
returns-in-Ok-clause-completes g c =
    λ bytes stated within. inl (is_verdict_status c.in-Ok.ensures.judged.verdict _ c.in-Ok.ensures.judged.status_is)

pub returns-in-Ok-clause-claimed : goal.returns-in-Ok-clause-claimed
returns-in-Ok-clause-claimed g c = λ zero. judged_claimed _ _ _ _ _ zero c.in-Ok.ensures.judged

pub returns-in-Ok-clause-too_long : goal.returns-in-Ok-clause-too_long
returns-in-Ok-clause-too_long g c = λ bytes stated past none.
    absurd (found_within _ _ bytes stated past none c.in-Ok.ensures.judged.verdict c.in-Ok.ensures.judged.found)

pub returns-in-Ok-clause-reads : goal.returns-in-Ok-clause-reads
returns-in-Ok-clause-reads g c =
    answer_counts 4 _ _ _ (omega arith)
    (verdict_answers _ (is_verdict_status c.in-Ok.ensures.judged.verdict _ c.in-Ok.ensures.judged.status_is))
    c.in-Ok.ensures.reads

pub returns-in-Ok-clause-writes : goal.returns-in-Ok-clause-writes
returns-in-Ok-clause-writes g c =
    answer_counts 5 _ _ _ (omega arith)
    (verdict_answers _ (is_verdict_status c.in-Ok.ensures.judged.verdict _ c.in-Ok.ensures.judged.status_is))
    c.in-Ok.ensures.writes

pub returns-in-Ok-clause-unwritten : goal.returns-in-Ok-clause-unwritten
returns-in-Ok-clause-unwritten g c =
    λ none five. absurd (none (is_verdict_status c.in-Ok.ensures.judged.verdict _ c.in-Ok.ensures.judged.status_is))

pub returns-in-Err-clause-exactly : goal.returns-in-Err-clause-exactly
returns-in-Err-clause-exactly g c =
    λ bytes stated verdict. absurd (stop_unanswered c.in-Err.stop _ c.status.ensures (verdict_answers _ verdict))

pub returns-in-Err-clause-completes : goal.returns-in-Err-clause-completes
returns-in-Err-clause-completes g c =
    λ bytes stated within. inr (unjudged_within _ _ _ _ bytes stated c.in-Err.stop _ within c.status.ensures
    c.in-Err.ensures.unjudged)

pub returns-in-Err-clause-too_long : goal.returns-in-Err-clause-too_long
returns-in-Err-clause-too_long g c =
    λ bytes stated past none. unjudged_past _ _ _ _ c.in-Err.stop _ c.status.ensures c.in-Err.ensures.unjudged

pub returns-in-Err-clause-reads : goal.returns-in-Err-clause-reads
returns-in-Err-clause-reads g c = stop_reads c.in-Err.stop _ _ _ c.status.ensures c.in-Err.ensures.reads

pub returns-in-Err-clause-writes : goal.returns-in-Err-clause-writes
returns-in-Err-clause-writes g c = stop_writes c.in-Err.stop _ _ _ c.status.ensures c.in-Err.ensures.writes

pub returns-in-Err-clause-unwritten : goal.returns-in-Err-clause-unwritten
returns-in-Err-clause-unwritten g c =
    λ none five. c.in-Err.ensures.unwritten (λ e. five (c.status.ensures ∙ ap stop_status e))
