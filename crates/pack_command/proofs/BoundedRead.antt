-- What the opening of a bounded document and the check of the rest of it come to together.
use Rattle.std.proofs.Common.{◌≡◌, ℕ, inl, inr, refl, sym, subst, List}
use Rattle.std.proofs.Common.{Option, Ok, Err, Vec, Global}
use Rattle.pack_streams.specs.Faults.{FaultCount, Stays}
use Rattle.pack_streams.specs.Moves.{Consumed}
use Rattle.pack_streams.proofs.Faults.{stays_on, fails_then}
use Rattle.text_terms.specs.Feeding.{Lexer}
use Rattle.text_terms.specs.declared.claim.SolvingJob.{SolvingJob}
use Rattle.verdict_terms.specs.declared.heading.Heading.TheVariants.{Bounded}
use Rattle.verdict_terms.specs.Documents.{bounded_verdict}
use Rattle.verdict_terms.specs.declared.kind.DocumentKind.TheVariants.{Bounded as OfBounded}
use Rattle.document_lines.specs.Reading.{Begins}
use Rattle.document_check.specs.declared.check.CheckEnd.{CheckEnd}
use Rattle.document_check.specs.declared.check.CheckEnd.TheVariants.{Verified, Refused, TooLong as CheckTooLong}
use Rattle.document_check.specs.declared.check.CheckEnd.TheVariants.{ReadFault as CheckReadFault}
use Rattle.document_check.specs.declared.check.CheckEnd.TheVariants.{NoMemory as CheckNoMemory}
use Rattle.document_check.specs.Checked.{IsCheckedBehind}
use Rattle.document_audits.specs.declared.opening.Opened.{Opened}
use Rattle.document_audits.specs.declared.opening.Opened.TheVariants.{Whole, Begun}
use Rattle.document_audits.specs.Reading.{IsBegun, IsOpened}
use Rattle.document_audits.proofs.Telling.{begun_by_lines}
use Rattle.answer_streams.specs.declared.verdict.Verdict.{Verdict}
use Rattle.answer_streams.specs.declared.verdict.Verdict.TheVariants.{Verified as VerifiedAs, Refused as RefusedAs}
use Rattle.answer_streams.specs.declared.audited.AuditedVerdict.{AuditedVerdict}
use Rattle.answer_streams.specs.declared.audited.AuditedVerdict.TheVariants.{Bounded as ToldBounded}
use Rattle.answer_streams.specs.Audited.{audit_verdict, IsReportedAs}
use Rattle.answer_streams.specs.Verdicts.{plain_verdict}
use Rattle.pack_command.specs.Counts.{CountsReads}
use Rattle.pack_command.specs.Inputs.{max_audit_bytes}
use Rattle.pack_command.specs.Checks.{HasVerdictUnder}
use Rattle.pack_command.specs.ByLines.{AreByLines, IsUnaudited, IsBehindHeading, IsRestRead}
use Rattle.pack_command.specs.Readings.{Audits, IsAuditRead, IsWithoutReading}
use Rattle.pack_command.specs.declared.stop.Stop.{Stop}
use Rattle.pack_command.specs.declared.stop.Stop.TheVariants.{Words, TooLong, Text, Dimensions, ReadFault, WriteFault}
use Rattle.pack_command.specs.declared.stop.Stop.TheVariants.{NoMemory}
use Rattle.pack_command.proofs.Audited.{told_bounded, told_as}

module _ (old mid new : Option (List ℕ)) (before between now : FaultCount) (s : Lexer) (count : ℕ) (job : SolvingJob)
    (begun : IsBegun max_audit_bytes old mid s count job) (stays : Stays before between) where
  behind : (end : CheckEnd) → IsBehindHeading mid new between now s count job end
      → IsCheckedBehind Bounded begun.opening old new between now end
  behind end rest = rest Bounded begun.opening old begun.taking

  lines_of : (taken : List ℕ) → Begins begun.opening taken → AreByLines taken
  lines_of taken begins =
      subst AreByLines (sym begins.1)
      (begun_by_lines max_audit_bytes begun.opening begins.0 begun.within begun.told begun.kind)

  stated : (taken : List ℕ) (verdict : Verdict) → AreByLines taken → Consumed old new taken
      → bounded_verdict taken ≡ plain_verdict verdict → HasVerdictUnder Bounded new taken (plain_verdict verdict)
      → IsAuditRead old new (Ok (ToldBounded verdict))
  stated taken verdict lines gives is enough = (
    taken,
    inr (record {
      lines = lines;
      taken = gives;
      enough = subst (λ v. HasVerdictUnder Bounded new taken v) (sym is) enough;
    }),
    told_as taken OfBounded (ToldBounded verdict) (sym lines.kind)
        (told_bounded verdict (bounded_verdict taken) (sym is)),
  )

  pub bounded_read : (verdict : Verdict) → IsRestRead mid new between now s count job (Ok verdict)
      → IsAuditRead old new (Ok (ToldBounded verdict))
  bounded_read (VerifiedAs claim) rest =
      let r = behind (Verified claim) rest in
      stated r.taken (VerifiedAs claim) (lines_of r.taken r.begins) r.gives r.comes.0 r.comes
  bounded_read (RefusedAs line reason) rest =
      let r = behind (Refused line reason) rest in
      stated r.taken (RefusedAs line reason) (lines_of r.taken r.begins) r.gives r.comes.0 r.comes

  pub bounded_unread : (stop : Stop) → IsRestRead mid new between now s count job (Err stop) → IsUnaudited old new stop
  bounded_unread Words rest = absurd rest
  bounded_unread TooLong rest =
      let r = behind CheckTooLong rest in
      inr (record { taken = r.taken; gives = r.gives; past = r.comes.0; none = r.comes.1 }, lines_of r.taken r.begins)
  bounded_unread (Text fault) rest = absurd rest
  bounded_unread Dimensions rest = absurd rest
  bounded_unread ReadFault rest =
      let r = behind CheckReadFault rest in
      inr (record { taken = r.taken; gives = r.gives; within = r.comes.0; none = r.comes.1 }, lines_of r.taken r.begins)
  bounded_unread WriteFault rest = absurd rest
  bounded_unread NoMemory rest =
      let r = behind CheckNoMemory rest in
      inr (record { taken = r.taken; gives = r.gives; within = r.comes.0; none = r.comes.1 }, lines_of r.taken r.begins)

  pub read_counts : (verdict : Verdict) → IsRestRead mid new between now s count job (Ok verdict) → Stays before now
  read_counts (VerifiedAs claim) rest = stays_on before between now stays (behind (Verified claim) rest).faults
  read_counts (RefusedAs line reason) rest =
      stays_on before between now stays (behind (Refused line reason) rest).faults

  pub unread_counts : (stop : Stop) → IsRestRead mid new between now s count job (Err stop)
      → CountsReads {A = AuditedVerdict} before now (Err stop)
  unread_counts Words rest = absurd rest
  unread_counts TooLong rest = stays_on before between now stays (behind CheckTooLong rest).faults
  unread_counts (Text fault) rest = absurd rest
  unread_counts Dimensions rest = absurd rest
  unread_counts ReadFault rest = fails_then before between now stays (behind CheckReadFault rest).faults
  unread_counts WriteFault rest = absurd rest
  unread_counts NoMemory rest = stays_on before between now stays (behind CheckNoMemory rest).faults

-- ---- how an audit ends

-- a document that was held whole
pub held_read : (old new : Option (List ℕ)) (o : Opened) (bytes : Vec ℕ Global) → o ≡ Whole bytes
    → IsOpened max_audit_bytes old new (Ok o) → (verdict : AuditedVerdict) (held : List ℕ) → held ≡ bytes.items
    → IsReportedAs (audit_verdict held) verdict → IsAuditRead old new (Ok verdict)
held_read old new o bytes is opened verdict held same stated =
    let whole = subst (λ x. IsOpened max_audit_bytes old new (Ok x)) is opened in (
      bytes.items,
      inl (whole.3, record { taken = whole.0; ended = whole.1; within = whole.2 }),
      subst (λ xs. IsReportedAs (audit_verdict xs) verdict) same stated,
    )

-- one that goes on behind its heading
pub begun_of : (old new : Option (List ℕ)) (o : Opened) (s : Lexer) (count : ℕ) (job : SolvingJob)
    → o ≡ Begun s count job → IsOpened max_audit_bytes old new (Ok o)
    → IsBegun max_audit_bytes old new s count job
begun_of old new o s count job is opened = subst (λ x. IsOpened max_audit_bytes old new (Ok x)) is opened

pub audit_undone : (old new sunk : Option (List ℕ)) (stop : Stop) → IsUnaudited old new stop
    → IsWithoutReading Audits old new sunk sunk stop
audit_undone old new sunk Words none = absurd none
audit_undone old new sunk TooLong none = (none, refl)
audit_undone old new sunk (Text fault) none = absurd none
audit_undone old new sunk Dimensions none = absurd none
audit_undone old new sunk ReadFault none = (none, refl)
audit_undone old new sunk WriteFault none = absurd none
audit_undone old new sunk NoMemory none = (none, refl)
