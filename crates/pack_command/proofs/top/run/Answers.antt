use Rattle.std.proofs.Common.{◌∙◌, ap, arith, inl, inr, List, ℕ}
use Rattle.pack_command.specs.Asked.{Plain, ValueBounds, HeightBounds}
use Rattle.pack_command.specs.Run.{IsMessageWritten}
use Rattle.pack_command.specs.Stops.{stop_status}
use Rattle.pack_command.proofs.OwnWritten.{own_written}
use Rattle.pack_command.proofs.Generating.{made_exactly, never_four}
use Rattle.pack_command.proofs.Written.{written_answers, written_job, written_fits, written_enough}
use Rattle.pack_command.proofs.Audited.{reading_done, exactly_read, audited_claimed}
use Rattle.pack_command.proofs.Fronted.{fronted_done}
use Rattle.pack_command.proofs.ProposedEnds.{proposed_done}
use Rattle.pack_command.proofs.ProposedDecided.{proposed_decided, proposed_own, proposed_within, proposed_exactly}
use Rattle.pack_command.proofs.BoundedDecided.{bounded_decided, bounded_own, bounded_within}
use Rattle.pack_command.proofs.HeightsDecided.{heights_decided, heights_own, heights_within}
use Rattle.pack_command.proofs.Sized.{told_decided, told_front, told_whole, told_own}
use Rattle.pack_command.proofs.Checked.{solved_done, judged_done, judged_exactly, judged_claimed}
use Rattle.pack_command.proofs.Causes.{answer_counts, completes, never_read, refusable_done, refuses, stop_reads}
use Rattle.pack_command.proofs.Causes.{stop_unanswered, stop_writes}
use Rattle.pack_command.proofs.top.run.Goals as goal

pub returns-in-Ok-clause-decides : goal.returns-in-Ok-clause-decides
returns-in-Ok-clause-decides g c = λ job settings instance asked answer.
    written_job _ _ _ _ _ _ settings asked.bytes instance
    (solved_done _ _ _ _ _ _ job settings asked.asks c.in-Ok.ensures.answered) asked.stated asked.read job asked.asks

pub returns-in-Ok-clause-answers : goal.returns-in-Ok-clause-answers
returns-in-Ok-clause-answers g c = λ job settings instance asked answer.
    written_answers _ _ _ _ _ _ settings asked.bytes instance
    (solved_done _ _ _ _ _ _ job settings asked.asks c.in-Ok.ensures.answered) asked.stated asked.read job asked.asks

pub returns-in-Ok-clause-enough : goal.returns-in-Ok-clause-enough
returns-in-Ok-clause-enough g c = λ job settings instance asked enough.
    written_enough _ _ _ _ _ _ settings asked.bytes instance
    (solved_done _ _ _ _ _ _ job settings asked.asks c.in-Ok.ensures.answered) asked.stated asked.read job
    asked.asks enough

pub returns-in-Ok-clause-fits : goal.returns-in-Ok-clause-fits
returns-in-Ok-clause-fits g c = λ job settings instance asked fits answer enough.
    written_fits _ _ _ _ _ _ settings asked.bytes instance
    (solved_done _ _ _ _ _ _ job settings asked.asks c.in-Ok.ensures.answered) asked.stated asked.read job fits
    asked.asks enough

pub returns-in-Ok-clause-verified : goal.returns-in-Ok-clause-verified
returns-in-Ok-clause-verified g c = λ job settings instance asked answer.
    own_written _ _ _ _ _ _ settings asked.bytes instance
    (solved_done _ _ _ _ _ _ job settings asked.asks c.in-Ok.ensures.answered) asked.stated asked.read job asked.asks

pub returns-in-Ok-clause-check_exact : goal.returns-in-Ok-clause-check_exact
returns-in-Ok-clause-check_exact g c =
    λ bytes asked answer. judged_exactly _ _ _ _ _ bytes asked.stated
    (judged_done _ _ _ _ _ _ asked.asks c.in-Ok.ensures.answered)

pub returns-in-Ok-clause-check_sound : goal.returns-in-Ok-clause-check_sound
returns-in-Ok-clause-check_sound g c =
    λ asks zero. judged_claimed _ _ _ _ _ zero (judged_done _ _ _ _ _ _ asks c.in-Ok.ensures.answered)

pub returns-in-Ok-clause-audit_exact : goal.returns-in-Ok-clause-audit_exact
returns-in-Ok-clause-audit_exact g c =
    λ bytes asked answer. exactly_read _ _ _ _ _ _ bytes asked.stated
    (reading_done _ _ _ _ _ _ _ asked.asks c.in-Ok.ensures.answered)

pub returns-in-Ok-clause-explains : goal.returns-in-Ok-clause-explains
returns-in-Ok-clause-explains g c =
    λ bytes asked answer. exactly_read _ _ _ _ _ _ bytes asked.stated
    (reading_done _ _ _ _ _ _ _ asked.asks c.in-Ok.ensures.answered)

pub returns-in-Ok-clause-audit_sound : goal.returns-in-Ok-clause-audit_sound
returns-in-Ok-clause-audit_sound g c =
    λ asks zero. audited_claimed _ _ _ _ _ zero (reading_done _ _ _ _ _ _ _ asks c.in-Ok.ensures.answered)

pub returns-in-Ok-clause-front_sound : goal.returns-in-Ok-clause-front_sound
returns-in-Ok-clause-front_sound g c =
    λ settings instance asked answer. told_decided _ _ _ _ _ _ settings instance asked
    (fronted_done _ _ _ _ _ _ settings asked.asks c.in-Ok.ensures.answered)

pub returns-in-Ok-clause-front_exact : goal.returns-in-Ok-clause-front_exact
returns-in-Ok-clause-front_exact g c =
    λ settings instance asked answer. told_front _ _ _ _ _ _ settings instance asked
    (fronted_done _ _ _ _ _ _ settings asked.asks c.in-Ok.ensures.answered)

pub returns-in-Ok-clause-whole : goal.returns-in-Ok-clause-whole
returns-in-Ok-clause-whole g c =
    λ settings instance asked bound. told_whole _ _ _ _ _ _ settings instance asked
    (fronted_done _ _ _ _ _ _ settings asked.asks c.in-Ok.ensures.answered) bound

pub returns-in-Ok-clause-front_verified : goal.returns-in-Ok-clause-front_verified
returns-in-Ok-clause-front_verified g c =
    λ settings instance asked answer. told_own _ _ _ _ _ _ settings instance asked
    (fronted_done _ _ _ _ _ _ settings asked.asks c.in-Ok.ensures.answered)

pub returns-in-Ok-clause-proposals_sound : goal.returns-in-Ok-clause-proposals_sound
returns-in-Ok-clause-proposals_sound g c = λ job settings instance asked answer.
    proposed_decided _ _ _ _ _ _ job settings instance asked
    (proposed_done _ _ _ _ _ _ (Plain job) settings asked.asks c.in-Ok.ensures.answered)

pub returns-in-Ok-clause-proposals_budget_suffices : goal.returns-in-Ok-clause-proposals_budget_suffices
returns-in-Ok-clause-proposals_budget_suffices g c = λ job settings instance asked few.
    proposed_within _ _ _ _ _ _ job settings instance asked
    (proposed_done _ _ _ _ _ _ (Plain job) settings asked.asks c.in-Ok.ensures.answered) few

pub returns-in-Ok-clause-proposals_decide_fit : goal.returns-in-Ok-clause-proposals_decide_fit
returns-in-Ok-clause-proposals_decide_fit g c = λ settings instance asked answer enough.
    proposed_exactly _ _ _ _ _ _ settings instance asked
    (proposed_done _ _ _ _ _ _ _ settings asked.asks c.in-Ok.ensures.answered) enough

pub returns-in-Ok-clause-proposals_verified : goal.returns-in-Ok-clause-proposals_verified
returns-in-Ok-clause-proposals_verified g c = λ job settings instance asked answer.
    proposed_own _ _ _ _ _ _ job settings instance asked
    (proposed_done _ _ _ _ _ _ (Plain job) settings asked.asks c.in-Ok.ensures.answered)

pub returns-in-Ok-clause-value_bounds_sound : goal.returns-in-Ok-clause-value_bounds_sound
returns-in-Ok-clause-value_bounds_sound g c = λ proposals settings instance asked answer.
    bounded_decided _ _ _ _ _ _ proposals settings instance asked
    (proposed_done _ _ _ _ _ _ (ValueBounds proposals) settings asked.asks c.in-Ok.ensures.answered)

pub returns-in-Ok-clause-value_bounds_budget_suffices : goal.returns-in-Ok-clause-value_bounds_budget_suffices
returns-in-Ok-clause-value_bounds_budget_suffices g c = λ proposals settings instance asked few.
    bounded_within _ _ _ _ _ _ proposals settings instance asked
    (proposed_done _ _ _ _ _ _ (ValueBounds proposals) settings asked.asks c.in-Ok.ensures.answered) few

pub returns-in-Ok-clause-value_bounds_verified : goal.returns-in-Ok-clause-value_bounds_verified
returns-in-Ok-clause-value_bounds_verified g c = λ proposals settings instance asked answer.
    bounded_own _ _ _ _ _ _ proposals settings instance asked
    (proposed_done _ _ _ _ _ _ (ValueBounds proposals) settings asked.asks c.in-Ok.ensures.answered)

pub returns-in-Ok-clause-height_bounds_sound : goal.returns-in-Ok-clause-height_bounds_sound
returns-in-Ok-clause-height_bounds_sound g c = λ proposals settings instance asked answer.
    heights_decided _ _ _ _ _ _ proposals settings instance asked
    (proposed_done _ _ _ _ _ _ (HeightBounds proposals) settings asked.asks c.in-Ok.ensures.answered)

pub returns-in-Ok-clause-height_bounds_budget_suffices : goal.returns-in-Ok-clause-height_bounds_budget_suffices
returns-in-Ok-clause-height_bounds_budget_suffices g c = λ proposals settings instance asked few.
    heights_within _ _ _ _ _ _ proposals settings instance asked
    (proposed_done _ _ _ _ _ _ (HeightBounds proposals) settings asked.asks c.in-Ok.ensures.answered) few

pub returns-in-Ok-clause-height_bounds_verified : goal.returns-in-Ok-clause-height_bounds_verified
returns-in-Ok-clause-height_bounds_verified g c = λ proposals settings instance asked answer.
    heights_own _ _ _ _ _ _ proposals settings instance asked
    (proposed_done _ _ _ _ _ _ (HeightBounds proposals) settings asked.asks c.in-Ok.ensures.answered)

pub returns-in-Ok-clause-makes : goal.returns-in-Ok-clause-makes
returns-in-Ok-clause-makes g c =
    λ number settings asks answer. made_exactly _ _ _ _ _ number settings asks _ c.in-Ok.ensures.answered

pub returns-in-Ok-clause-completes : goal.returns-in-Ok-clause-completes
returns-in-Ok-clause-completes g c = λ asked. inl c.in-Ok.ensures.status

pub returns-in-Ok-clause-refuses : goal.returns-in-Ok-clause-refuses
returns-in-Ok-clause-refuses g c = λ stop asked. absurd (refusable_done _ _ _ _ _ stop asked _ c.in-Ok.ensures.answered)

pub returns-in-Ok-clause-unwritten : goal.returns-in-Ok-clause-unwritten
returns-in-Ok-clause-unwritten g c = λ none five. absurd (none c.in-Ok.ensures.status)

pub returns-in-Ok-clause-unread : goal.returns-in-Ok-clause-unread
returns-in-Ok-clause-unread g c = λ nothing. (c.in-Ok.ensures.unread nothing, never_four _ c.in-Ok.ensures.status)

pub returns-in-Ok-clause-reads : goal.returns-in-Ok-clause-reads
returns-in-Ok-clause-reads g c = answer_counts 4 _ _ _ (omega arith) c.in-Ok.ensures.status c.in-Ok.ensures.reads

pub returns-in-Ok-clause-writes : goal.returns-in-Ok-clause-writes
returns-in-Ok-clause-writes g c = answer_counts 5 _ _ _ (omega arith) c.in-Ok.ensures.status c.in-Ok.ensures.writes

pub returns-in-Err-clause-decides : goal.returns-in-Err-clause-decides
returns-in-Err-clause-decides g c =
    λ job settings instance asked answer. absurd (stop_unanswered c.in-Err.stop _ c.status.ensures answer)

pub returns-in-Err-clause-answers : goal.returns-in-Err-clause-answers
returns-in-Err-clause-answers g c =
    λ job settings instance asked answer. absurd (stop_unanswered c.in-Err.stop _ c.status.ensures answer)

pub returns-in-Err-clause-fits : goal.returns-in-Err-clause-fits
returns-in-Err-clause-fits g c =
    λ job settings instance asked fits answer enough. absurd (stop_unanswered c.in-Err.stop _ c.status.ensures answer)

pub returns-in-Err-clause-verified : goal.returns-in-Err-clause-verified
returns-in-Err-clause-verified g c =
    λ job settings instance asked answer. absurd (stop_unanswered c.in-Err.stop _ c.status.ensures answer)

pub returns-in-Err-clause-check_exact : goal.returns-in-Err-clause-check_exact
returns-in-Err-clause-check_exact g c =
    λ bytes asked answer. absurd (stop_unanswered c.in-Err.stop _ c.status.ensures answer)

pub returns-in-Err-clause-audit_exact : goal.returns-in-Err-clause-audit_exact
returns-in-Err-clause-audit_exact g c =
    λ bytes asked answer. absurd (stop_unanswered c.in-Err.stop _ c.status.ensures answer)

pub returns-in-Err-clause-explains : goal.returns-in-Err-clause-explains
returns-in-Err-clause-explains g c =
    λ bytes asked answer. absurd (stop_unanswered c.in-Err.stop _ c.status.ensures answer)

pub returns-in-Err-clause-front_sound : goal.returns-in-Err-clause-front_sound
returns-in-Err-clause-front_sound g c =
    λ settings instance asked answer. absurd (stop_unanswered c.in-Err.stop _ c.status.ensures answer)

pub returns-in-Err-clause-front_exact : goal.returns-in-Err-clause-front_exact
returns-in-Err-clause-front_exact g c =
    λ settings instance asked answer. absurd (stop_unanswered c.in-Err.stop _ c.status.ensures answer)

pub returns-in-Err-clause-front_verified : goal.returns-in-Err-clause-front_verified
returns-in-Err-clause-front_verified g c =
    λ settings instance asked answer. absurd (stop_unanswered c.in-Err.stop _ c.status.ensures answer)

pub returns-in-Err-clause-proposals_sound : goal.returns-in-Err-clause-proposals_sound
returns-in-Err-clause-proposals_sound g c =
    λ job settings instance asked answer. absurd (stop_unanswered c.in-Err.stop _ c.status.ensures answer)

pub returns-in-Err-clause-proposals_decide_fit : goal.returns-in-Err-clause-proposals_decide_fit
returns-in-Err-clause-proposals_decide_fit g c =
    λ settings instance asked answer enough. absurd (stop_unanswered c.in-Err.stop _ c.status.ensures answer)

pub returns-in-Err-clause-proposals_verified : goal.returns-in-Err-clause-proposals_verified
returns-in-Err-clause-proposals_verified g c =
    λ job settings instance asked answer. absurd (stop_unanswered c.in-Err.stop _ c.status.ensures answer)

pub returns-in-Err-clause-value_bounds_sound : goal.returns-in-Err-clause-value_bounds_sound
returns-in-Err-clause-value_bounds_sound g c =
    λ proposals settings instance asked answer. absurd (stop_unanswered c.in-Err.stop _ c.status.ensures answer)

pub returns-in-Err-clause-value_bounds_verified : goal.returns-in-Err-clause-value_bounds_verified
returns-in-Err-clause-value_bounds_verified g c =
    λ proposals settings instance asked answer. absurd (stop_unanswered c.in-Err.stop _ c.status.ensures answer)

pub returns-in-Err-clause-height_bounds_sound : goal.returns-in-Err-clause-height_bounds_sound
returns-in-Err-clause-height_bounds_sound g c =
    λ proposals settings instance asked answer. absurd (stop_unanswered c.in-Err.stop _ c.status.ensures answer)

pub returns-in-Err-clause-height_bounds_verified : goal.returns-in-Err-clause-height_bounds_verified
returns-in-Err-clause-height_bounds_verified g c =
    λ proposals settings instance asked answer. absurd (stop_unanswered c.in-Err.stop _ c.status.ensures answer)

pub returns-in-Err-clause-makes : goal.returns-in-Err-clause-makes
returns-in-Err-clause-makes g c =
    λ number settings asks answer. absurd (stop_unanswered c.in-Err.stop _ c.status.ensures answer)

pub returns-in-Err-clause-answered : goal.returns-in-Err-clause-answered
returns-in-Err-clause-answered g c = λ answer. absurd (stop_unanswered c.in-Err.stop _ c.status.ensures answer)

pub returns-in-Err-clause-completes : goal.returns-in-Err-clause-completes
returns-in-Err-clause-completes g c =
    λ asked. inr (completes _ _ _ _ _ asked c.in-Err.stop _ c.status.ensures c.in-Err.ensures.stopped)

pub returns-in-Err-clause-refuses : goal.returns-in-Err-clause-refuses
returns-in-Err-clause-refuses g c = λ stop asked.
    refuses _ _ _ _ _ stop asked c.in-Err.stop _ c.status.ensures c.in-Err.ensures.stopped
    (λ (message : List ℕ). IsMessageWritten (g.E.Sink.written c.args.err.now) (g.E.Sink.written c.write_message-written.new.err)
    (g.E.Sink.faults c.args.err.now) (g.E.Sink.faults c.write_message-written.new.err) message)
    (c.write_message-written.result, c.write_message-written.ensures)

pub returns-in-Err-clause-unwritten : goal.returns-in-Err-clause-unwritten
returns-in-Err-clause-unwritten g c =
    λ none five. c.in-Err.ensures.unwritten (λ e. five (c.status.ensures ∙ ap stop_status e))

pub returns-in-Err-clause-unread : goal.returns-in-Err-clause-unread
returns-in-Err-clause-unread g c = λ nothing. (
  c.in-Err.ensures.unread nothing,
  never_read _ _ _ _ _ nothing c.in-Err.stop _ c.status.ensures c.in-Err.ensures.stopped,
)

pub returns-in-Err-clause-reads : goal.returns-in-Err-clause-reads
returns-in-Err-clause-reads g c = stop_reads c.in-Err.stop _ _ _ c.status.ensures c.in-Err.ensures.reads

pub returns-in-Err-clause-writes : goal.returns-in-Err-clause-writes
returns-in-Err-clause-writes g c = stop_writes c.in-Err.stop _ _ _ c.status.ensures c.in-Err.ensures.writes
