-- What a job that read a whole document, and ended in its text, says of all bytes; and what an audit
-- says of the instance in them.
use Rattle.std.proofs.Common.{◌≡◌, ℕ, ◌⊎◌, inl, inr, refl, sym, ap, subst, ◌∙◌, List, length, arith, Option, Some}
use Rattle.std.proofs.Common.{Result, Ok, Err, String, Global}
use Rattle.packing_terms.specs.Packing.{PlainInstance}
use Rattle.text_terms.specs.declared.claim.Claim.{Claim}
use Rattle.answer_terms.specs.declared.job.DocumentJob.{DocumentJob}
use Rattle.text_terms.specs.declared.settings.Settings.{Settings}
use Rattle.std.specs.Io.KnownBytes.{IsAtEnd}
use Rattle.pack_streams.specs.Moves.{Consumed, Appended}
use Rattle.verdict_terms.specs.declared.heading.Heading.TheVariants.{Reduced, Bounded}
use Rattle.verdict_terms.specs.Documents.{Refusal, reduced_verdict, reduced_verdict_line, bounded_verdict}
use Rattle.verdict_terms.specs.Documents.{bounded_verdict_line}
use Rattle.verdict_terms.specs.Form.{IsReducedDocument, IsBoundedDocument}
use Rattle.verdict_terms.proofs.FormGiven.{documents_have_form}
use Rattle.verdict_terms.proofs.True.{documents_are_true}
use Rattle.verdict_terms.specs.declared.kind.DocumentKind.{DocumentKind}
use Rattle.verdict_terms.specs.declared.kind.DocumentKind.TheVariants.{Explained as OfExplained, Front as OfFront}
use Rattle.verdict_terms.specs.declared.kind.DocumentKind.TheVariants.{Reduced as OfReduced, Bounded as OfBounded}
use Rattle.verdict_terms.specs.Kinds.{document_kind}
use Rattle.verdict_terms.specs.ExplainedDocuments.{ExplainedRefusal, explained_verdict, explained_line, explained_status}
use Rattle.verdict_terms.proofs.Shown.{documents_are_true as explained_are_true}
use Rattle.verdict_terms.proofs.ExplainedDocumentFormTold.{documents_have_form as explained_have_form}
use Rattle.verdict_terms.specs.FrontDocumentVerdicts.{FrontRead, front_document_verdict, front_verdict_line}
use Rattle.verdict_terms.specs.FrontDocumentVerdicts.{front_verdict_status}
use Rattle.verdict_terms.proofs.Verified.{verified_fronts_are_true}
use Rattle.verdict_terms.proofs.FrontDocumentFormTold.{fronts_have_form}
use Rattle.answer_streams.specs.declared.verdict.Verdict.{Verdict}
use Rattle.answer_streams.specs.declared.audited.AuditedVerdict.{AuditedVerdict}
use Rattle.answer_streams.specs.declared.audited.AuditedVerdict.TheVariants.{Reduced as ToldReduced, Bounded as ToldBounded}
use Rattle.answer_streams.specs.declared.audited.AuditedVerdict.TheVariants.{Explained as ToldExplained}
use Rattle.answer_streams.specs.declared.audited.AuditedVerdict.TheVariants.{Front as ToldFront}
use Rattle.answer_streams.specs.declared.audited.ExplainedVerdict.{ExplainedVerdict}
use Rattle.answer_streams.specs.declared.audited.ExplainedVerdict.TheVariants.{Verified, Refused}
use Rattle.answer_streams.specs.declared.audited_fronts.FrontAudited.{FrontAudited}
use Rattle.answer_streams.specs.declared.audited_fronts.FrontAudited.TheVariants.{Verified as VerifiedFront}
use Rattle.answer_streams.specs.declared.audited_fronts.FrontAudited.TheVariants.{Refused as RefusedFront}
use Rattle.answer_streams.specs.Verdicts.{plain_verdict, verdict_status}
use Rattle.answer_streams.specs.Audited.{ReducedVerdictOf, BoundedVerdictOf, ExplainedVerdictOf, FrontVerdictOf}
use Rattle.answer_streams.specs.Audited.{verdict_of_kind, audit_verdict, audit_status, audit_line, IsTrueVerdict}
use Rattle.answer_streams.specs.Audited.{IsExplainedAs, IsFrontReportedAs, IsReportedAs}
use Rattle.answer_streams.proofs.Lined.{front_line}
use Rattle.pack_command.specs.Asked.{AsksToSolve, AsksTask, AsksNothing, IsLongReading}
use Rattle.pack_command.specs.Audits.{IsVerifiedAuditClaim}
use Rattle.pack_command.specs.Checks.{HasVerdictUnder}
use Rattle.pack_command.specs.Inputs.{max_audit_bytes}
use Rattle.pack_command.specs.ByLines.{AreByLines, IsBoundedTaken}
use Rattle.pack_command.specs.Readings.{DocumentTask, Audits, Explains, HasTaskResult, IsDocumentTaken, IsUntaken, AreFew}
use Rattle.pack_command.specs.Readings.{ArePast, IsReadingDone, IsWithoutReading, IsTaskOutput}
use Rattle.pack_command.specs.Ends.{IsJobCompleted, IsJobAborted}
use Rattle.pack_command.specs.Run.{IsStopped}
use Rattle.pack_command.specs.declared.stop.Stop.{Stop}
use Rattle.pack_command.specs.declared.stop.Stop.TheVariants.{Words, TooLong, Text, Dimensions, ReadFault, WriteFault}
use Rattle.pack_command.specs.declared.stop.Stop.TheVariants.{NoMemory}
use Rattle.pack_command.proofs.Written.{taken_all, taken_within}
use Rattle.pack_command.proofs.Checked.{told_rest, reached_under}
use Rattle.pack_command.proofs.ByLines.{never_long, none_taken}
use Rattle.document_audits.proofs.Telling.{lines_go_on}
use Rattle.pack_command.proofs.Generating.{no_task, task_solves, task_checks, same_task}
use Rattle.pack_command.proofs.OneJob.{front_tasks, proposed_tasks}

module _ (words : List (String Global)) (old new sunk_old sunk_new : Option (List ℕ)) where
  -- what was done for the job is its text, written whole
  pub reading_done : (task : DocumentTask) (status : ℕ) → AsksTask words task
      → IsJobCompleted words old new sunk_old sunk_new status → IsReadingDone task old new sunk_old sunk_new status
  reading_done task status asks (inl w) =
      absurd (task_solves words w.answered.job w.answered.settings task w.answered.asked asks)
  reading_done task status asks (inr (inl c)) = absurd (task_checks words task c.0 asks)
  reading_done task status asks (inr (inr (inl m))) = absurd (no_task words m.number m.settings task m.asked asks)
  reading_done task status asks (inr (inr (inr (inl a)))) =
      subst (λ t. IsReadingDone t old new sunk_old sunk_new status) (same_task words a.0 task a.1 asks) a.2
  reading_done task status asks (inr (inr (inr (inr (inl f))))) =
      absurd (front_tasks words f.settings task f.answered.asked asks)
  reading_done task status asks (inr (inr (inr (inr (inr p))))) =
      absurd (proposed_tasks words p.job p.settings task p.answered.asked asks)

  pub reading_undone : (task : DocumentTask) (stop : Stop) → AsksTask words task
      → IsJobAborted words old new sunk_old sunk_new stop
      → IsWithoutReading task old new sunk_old sunk_new stop ⊎ (stop ≡ NoMemory)
  reading_undone task stop asks (inl s) = go stop s
    where
      none : AsksNothing words → ⊥
      none n = let i = asks.is in absurd (cc (n, i))

      solves : ((job : DocumentJob) × (settings : Settings) × AsksToSolve words job settings) → ⊥
      solves a = task_solves words a.0 a.1 task a.2 asks

      go : (stop : Stop) → IsStopped words old new sunk_old sunk_new stop
          → IsWithoutReading task old new sunk_old sunk_new stop ⊎ (stop ≡ NoMemory)
      go Words s = absurd (none s.0)
      go TooLong s = absurd (solves s.0)
      go (Text fault) s = absurd (solves s.0)
      go Dimensions s = absurd s
      go ReadFault s = absurd (solves s.0)
      go WriteFault s = absurd (task_solves words s.answered.job s.answered.settings task s.answered.asked asks)
      go NoMemory s = inr refl
  reading_undone task stop asks (inr (inl c)) = absurd (task_checks words task c.0 asks)
  reading_undone task stop asks (inr (inr (inl m))) = absurd (no_task words m.number m.settings task m.asked asks)
  reading_undone task stop asks (inr (inr (inr (inl a)))) =
      inl (subst (λ t. IsWithoutReading t old new sunk_old sunk_new stop) (same_task words a.0 task a.1 asks) a.2)
  reading_undone task stop asks (inr (inr (inr (inr (inl f))))) = absurd (front_tasks words f.0.0 task f.0.1 asks)
  reading_undone task stop asks (inr (inr (inr (inr (inr p))))) =
      absurd (proposed_tasks words p.0.0 p.0.1 task p.0.2 asks)

-- ---- how much is read

-- a document that isn't too long for the job isn't refused as such
pub few_enough : (task : DocumentTask) (old new : Option (List ℕ)) (bytes : List ℕ) → old ≡ Some bytes
    → AreFew task bytes → IsUntaken task old new TooLong → ⊥
few_enough Audits old new bytes is few unread = never_long old new bytes is few unread
few_enough Explains old new bytes is few (taken, gives, past, most) =
    let l = taken_within old new taken bytes is gives in
    omega (arith, l, past, few)

-- more bytes than are read have no text
pub past_taken : (task : DocumentTask) (old new : Option (List ℕ)) (bytes : List ℕ) → old ≡ Some bytes
    → ArePast task bytes → (taken : List ℕ) → IsDocumentTaken task old new taken → ⊥
past_taken Audits old new bytes is past taken input = none_taken old new bytes is past taken input
past_taken Explains old new bytes is past taken input =
    let same = taken_all old new taken bytes is input.taken input.ended in
    let few = input.within in
    omega (arith, ap length same, past, few)

pub long_read : (words : List (String Global)) (old new sunk_old sunk_new : Option (List ℕ)) (status : ℕ)
    → (l : IsLongReading words old) → IsReadingDone l.task old new sunk_old sunk_new status → ⊥
long_read words old new sunk_old sunk_new status l a = past_taken l.task old new l.bytes l.stated l.past a.bytes a.input

-- ---- what all bytes come to

-- the verdict on the bytes taken is that on all
same_verdict : (old new : Option (List ℕ)) (bytes taken : List ℕ) → old ≡ Some bytes → IsBoundedTaken old new taken
    → audit_verdict taken ≡ audit_verdict bytes
same_verdict old new bytes taken is some =
    let rest = told_rest old new taken bytes is some.taken in
    let all : AreByLines bytes = subst AreByLines (sym rest.1) (lines_go_on max_audit_bytes taken rest.0 some.lines) in
    let same : bounded_verdict bytes ≡ bounded_verdict taken =
    reached_under Bounded old new taken bytes (bounded_verdict taken) is some.taken some.enough in
    ap (λ k. verdict_of_kind k taken) some.lines.kind ∙ ap BoundedVerdictOf (sym same)
    ∙ ap (λ k. verdict_of_kind k bytes) (sym all.kind)

same_text : (task : DocumentTask) (old new : Option (List ℕ)) (bytes taken : List ℕ) (status : ℕ) (text : List ℕ)
    → old ≡ Some bytes → IsDocumentTaken task old new taken → HasTaskResult task taken status text
    → HasTaskResult task bytes status text
same_text Audits old new bytes taken status text is (inl (held, whole)) comes =
    subst (λ b. HasTaskResult Audits b status text) (taken_all old new taken bytes is whole.taken whole.ended) comes
same_text Audits old new bytes taken status text is (inr some) comes =
    subst (λ v. (status ≡ audit_status v) × (text ≡ audit_line v)) (same_verdict old new bytes taken is some) comes
same_text Explains old new bytes taken status text is whole comes =
    subst (λ b. HasTaskResult Explains b status text) (taken_all old new taken bytes is whole.taken whole.ended) comes

pub exactly_read : (task : DocumentTask) (old new sunk_old sunk_new : Option (List ℕ)) (status : ℕ) (bytes : List ℕ)
    → old ≡ Some bytes
    → IsReadingDone task old new sunk_old sunk_new status → IsTaskOutput task bytes sunk_old sunk_new status
exactly_read task old new sunk_old sunk_new status bytes is a = record {
  text = a.text;
  comes = same_text task old new bytes a.bytes status a.text is a.input a.comes;
  written = a.written;
}

-- what is verified is true
true_verdict : (bytes : List ℕ) (kind : DocumentKind) → audit_status (verdict_of_kind kind bytes) ≡ 0
    → IsTrueVerdict bytes (verdict_of_kind kind bytes)
true_verdict bytes OfReduced zero = go (reduced_verdict bytes) refl zero
  where
    go : (verdict : Result Claim Refusal) → reduced_verdict bytes ≡ verdict → verdict_status verdict ≡ 0
        → IsTrueVerdict bytes (ReducedVerdictOf verdict)
    go (Ok claim) is ok =
        let document : IsReducedDocument bytes claim = (documents_have_form Reduced bytes claim).0 is in
        (document, documents_are_true Reduced bytes claim document)
    go (Err refusal) is bad = absurd (cc (bad))
true_verdict bytes OfBounded zero = go (bounded_verdict bytes) refl zero
  where
    go : (verdict : Result Claim Refusal) → bounded_verdict bytes ≡ verdict → verdict_status verdict ≡ 0
        → IsTrueVerdict bytes (BoundedVerdictOf verdict)
    go (Ok claim) is ok =
        let document : IsBoundedDocument bytes claim = (documents_have_form Bounded bytes claim).0 is in
        (document, documents_are_true Bounded bytes claim document)
    go (Err refusal) is bad = absurd (cc (bad))
true_verdict bytes OfExplained zero = go (explained_verdict bytes) refl zero
  where
    go : (verdict : Result PlainInstance ExplainedRefusal) → explained_verdict bytes ≡ verdict
        → explained_status verdict ≡ 0 → IsTrueVerdict bytes (ExplainedVerdictOf verdict)
    go (Ok instance) is ok = record {
      verdict = is;
      document = explained_have_form bytes instance is;
      shown = explained_are_true bytes instance is;
    }
    go (Err refusal) is bad = absurd (cc (bad))
true_verdict bytes OfFront zero = go (front_document_verdict bytes) refl zero
  where
    go : (verdict : Result FrontRead Refusal) → front_document_verdict bytes ≡ verdict
        → front_verdict_status verdict ≡ 0 → IsTrueVerdict bytes (FrontVerdictOf verdict)
    go (Ok r) is ok = let t = verified_fronts_are_true bytes r is in
        record { verdict = is; document = fronts_have_form bytes r is; limits = t.0; plane = t.1; front = t.2 }
    go (Err refusal) is bad = absurd (cc (bad))

-- what is verified was taken to its end
taken_whole : (old new : Option (List ℕ)) (bytes : List ℕ) → audit_status (audit_verdict bytes) ≡ 0
    → IsDocumentTaken Audits old new bytes → Consumed old new bytes × IsAtEnd new
taken_whole old new bytes zero (inl (held, whole)) = (whole.taken, whole.ended)
taken_whole old new bytes zero (inr some) = (
  some.taken,
  go (bounded_verdict bytes) (ap (λ k. audit_status (verdict_of_kind k bytes)) (sym some.lines.kind) ∙ zero)
      some.enough,
)
  where
    go : (verdict : Result Claim Refusal) → verdict_status verdict ≡ 0 → HasVerdictUnder Bounded new bytes verdict
        → IsAtEnd new
    go (Ok claim) ok reached = reached.2
    go (Err refusal) bad reached = absurd (cc (bad))

pub audited_claimed : (old new sunk_old sunk_new : Option (List ℕ)) (status : ℕ) → status ≡ 0
    → IsReadingDone Audits old new sunk_old sunk_new status → IsVerifiedAuditClaim old new sunk_old sunk_new
audited_claimed old new sunk_old sunk_new status zero a =
    let verified : audit_status (audit_verdict a.bytes) ≡ 0 = sym a.comes.0 ∙ zero in
    let whole = taken_whole old new a.bytes verified a.input in
    record {
      bytes = a.bytes;
      taken = whole.0;
      ended = whole.1;
      holds = true_verdict a.bytes (document_kind a.bytes) verified;
      line = subst (λ t. Appended sunk_old sunk_new t) a.comes.1 a.written;
    }

-- ---- how a verdict is reported

pub told_reduced : (verdict : Verdict) (is : Result Claim Refusal) → plain_verdict verdict ≡ is
    → IsReportedAs (ReducedVerdictOf is) (ToldReduced verdict)
told_reduced verdict is e = record { line = ap reduced_verdict_line e; status = ap verdict_status e }

pub told_bounded : (verdict : Verdict) (is : Result Claim Refusal) → plain_verdict verdict ≡ is
    → IsReportedAs (BoundedVerdictOf is) (ToldBounded verdict)
told_bounded verdict is e = record { line = ap bounded_verdict_line e; status = ap verdict_status e }

pub told_explained : (verdict : ExplainedVerdict) (is : Result PlainInstance ExplainedRefusal)
    → IsExplainedAs is verdict → IsReportedAs (ExplainedVerdictOf is) (ToldExplained verdict)
told_explained Verified is e = record { line = ap explained_line (sym e.1); status = ap explained_status (sym e.1) }
told_explained (Refused line reason) is e =
    record { line = ap explained_line (sym e); status = ap explained_status (sym e) }

pub told_fronts : (verdict : FrontAudited) (is : Result FrontRead Refusal) → IsFrontReportedAs is verdict
    → IsReportedAs (FrontVerdictOf is) (ToldFront verdict)
told_fronts (VerifiedFront complete points) is e =
    record {
      line = front_line complete points e.0 ∙ ap front_verdict_line (sym e.1);
      status = ap front_verdict_status (sym e.1);
    }
told_fronts (RefusedFront line reason) is e =
    record { line = ap front_verdict_line (sym e); status = ap front_verdict_status (sym e) }

-- a verdict of the kind of the bytes
pub told_as : (bytes : List ℕ) (kind : DocumentKind) (stated : AuditedVerdict) → kind ≡ document_kind bytes
    → IsReportedAs (verdict_of_kind kind bytes) stated
    → IsReportedAs (audit_verdict bytes) stated
told_as bytes kind stated e h = subst (λ k. IsReportedAs (verdict_of_kind k bytes) stated) e h
