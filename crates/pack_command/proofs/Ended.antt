-- The status of an audit is that of an answer.
use Rattle.std.proofs.Common.{◌≡◌, ℕ, inl, inr, refl, sym, subst, List, Option, Ok, Err}
use Rattle.answer_streams.specs.Audited.{KindVerdict, ReducedVerdictOf, BoundedVerdictOf, ExplainedVerdictOf}
use Rattle.answer_streams.specs.Audited.{FrontVerdictOf, audit_verdict, audit_status}
use Rattle.pack_command.specs.Answered.{IsAnswerStatus}
use Rattle.pack_command.specs.Readings.{Audits, IsReadingDone}

audit_answers : (v : KindVerdict) → IsAnswerStatus (audit_status v)
audit_answers (ReducedVerdictOf (Ok claim)) = inl refl
audit_answers (ReducedVerdictOf (Err refusal)) = inr (inl refl)
audit_answers (BoundedVerdictOf (Ok claim)) = inl refl
audit_answers (BoundedVerdictOf (Err refusal)) = inr (inl refl)
audit_answers (ExplainedVerdictOf (Ok instance)) = inl refl
audit_answers (ExplainedVerdictOf (Err refusal)) = inr (inl refl)
audit_answers (FrontVerdictOf (Ok r)) = inl refl
audit_answers (FrontVerdictOf (Err refusal)) = inr (inl refl)

pub audited_answers : (old new sunk_old sunk_new : Option (List ℕ)) (status : ℕ)
    → IsReadingDone Audits old new sunk_old sunk_new status → IsAnswerStatus status
audited_answers old new sunk_old sunk_new status done =
    subst IsAnswerStatus (sym done.comes.0) (audit_answers (audit_verdict done.bytes))
