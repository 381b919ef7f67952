-- What `audit` promises of a bounded document, which it reads line by line as `check` reads an answer. `bytes` are
-- the bytes that were taken from the source.
use Rattle.std.specs.Prelude.{ℕ, ◌+◌, ◌<◌, ◌≤◌, ◌⊎◌, List, length, take, Result, Ok, Err}
use Rattle.std.specs.declared.option.Option.{Option}
use Rattle.pack_streams.specs.Faults.{FaultCount}
use Rattle.pack_streams.specs.Moves.{Consumed}
use Rattle.pack_streams.specs.Reading.{block}
use Rattle.text_terms.specs.Texts.{no_parts}
use Rattle.text_terms.specs.Feeding.{Lexer}
use Rattle.text_terms.specs.declared.claim.SolvingJob.{SolvingJob}
use Rattle.verdict_terms.specs.declared.heading.Heading.TheVariants.{Bounded}
use Rattle.verdict_terms.specs.Documents.{bounded_verdict}
use Rattle.verdict_terms.specs.Fed.{NoneRefusedUnder}
use Rattle.verdict_terms.specs.Stages.Stage.{Reading}
use Rattle.document_check.specs.declared.check.CheckEnd.{CheckEnd}
use Rattle.document_check.specs.declared.check.CheckEnd.TheVariants.{Verified, Refused, TooLong as CheckTooLong}
use Rattle.document_check.specs.declared.check.CheckEnd.TheVariants.{ReadFault as CheckReadFault}
use Rattle.document_check.specs.declared.check.CheckEnd.TheVariants.{NoMemory as CheckNoMemory}
use Rattle.document_check.specs.Checked.{max_check_bytes, IsRestChecked}
use Rattle.document_audits.specs.Openings.{IsReadByLines, IsReadWhole}
use Rattle.answer_streams.specs.declared.verdict.Verdict.{Verdict}
use Rattle.answer_streams.specs.declared.verdict.Verdict.TheVariants.{Verified as VerifiedAs, Refused as RefusedAs}
use Rattle.pack_command.specs.Checks.{HasVerdictUnder, IsPastLimitUnder, IsBrokenOffUnder, IsGivenUpUnder}
use Rattle.pack_command.specs.Inputs.{max_audit_bytes}
use Rattle.pack_command.specs.declared.stop.Stop.{Stop}
use Rattle.pack_command.specs.declared.stop.Stop.TheVariants.{Words, TooLong, Text, Dimensions, ReadFault, WriteFault}
use Rattle.pack_command.specs.declared.stop.Stop.TheVariants.{NoMemory}

-- a bounded document whose heading ends within the first 2 ^ 24 bytes: it is read line by line
abbrev pub AreByLines : List ℕ → Type 0
AreByLines bytes = IsReadByLines max_audit_bytes bytes

-- any other document: it is held whole
abbrev pub AreHeld : List ℕ → Type 0
AreHeld bytes = IsReadWhole max_audit_bytes bytes

-- these bytes of such a document were taken, and are enough for its verdict: all of them, or those up to the line
-- feed of the refused line
pub record IsBoundedTaken (old new : Option (List ℕ)) (bytes : List ℕ) : Type 0 where
  pub lines : AreByLines bytes
  pub taken : Consumed old new bytes
  pub enough : HasVerdictUnder Bounded new bytes (bounded_verdict bytes)

-- a document that is held has more bytes than are read, of which not more than one block beyond that was taken
abbrev pub IsLongHeld : Option (List ℕ) → Option (List ℕ) → Type 0
IsLongHeld old new =
    (bytes : List ℕ) × Consumed old new bytes × (max_audit_bytes < length bytes)
    × (length bytes ≤ max_audit_bytes + block) × AreHeld bytes

-- the input broke off before more came than are held
abbrev pub IsBrokenHeld : Option (List ℕ) → Option (List ℕ) → Type 0
IsBrokenHeld old new = (bytes : List ℕ) × Consumed old new bytes × (length bytes ≤ max_audit_bytes) × AreHeld bytes

-- memory was refused for what is to be held
abbrev pub IsRefusedHeld : Option (List ℕ) → Option (List ℕ) → Type 0
IsRefusedHeld old new = (bytes : List ℕ) × Consumed old new bytes × (length bytes ≤ max_audit_bytes + block)

-- why an audit ended without a verdict: the first is of a document that is held, and the second of one that is
-- read line by line
abbrev pub IsUnaudited : Option (List ℕ) → Option (List ℕ) → Stop → Type 0
IsUnaudited old new TooLong = IsLongHeld old new ⊎ ((p : IsPastLimitUnder Bounded old new) × AreByLines p.taken)
IsUnaudited old new ReadFault = IsBrokenHeld old new ⊎ ((p : IsBrokenOffUnder Bounded old new) × AreByLines p.taken)
IsUnaudited old new NoMemory = IsRefusedHeld old new ⊎ ((p : IsGivenUpUnder Bounded old new) × AreByLines p.taken)
IsUnaudited old new Words = ⊥
IsUnaudited old new (Text fault) = ⊥
IsUnaudited old new Dimensions = ⊥
IsUnaudited old new WriteFault = ⊥

-- not more bytes than are read
abbrev pub AreAuditable : List ℕ → Type 0
AreAuditable bytes = (length bytes ≤ max_audit_bytes) ⊎ (AreByLines bytes × (length bytes ≤ max_check_bytes))

-- more bytes than are read: of a document that is held, or of one that is read line by line, no line of which
-- that is whole within the limit is refused
abbrev pub AreTooMany : List ℕ → Type 0
AreTooMany bytes =
    ((max_audit_bytes < length bytes) × AreHeld bytes)
    ⊎ ((max_check_bytes < length bytes) × NoneRefusedUnder Bounded (take max_check_bytes bytes))

-- ---- the steps

-- the check of what stands behind the heading, which names the job
abbrev pub IsBehindHeading : Option (List ℕ) → Option (List ℕ) → FaultCount → FaultCount → Lexer → ℕ → SolvingJob → CheckEnd
    → Type 0
IsBehindHeading old new before now s count job end =
    IsRestChecked old new before now s (Reading Bounded job no_parts) count end

-- it ended with a verdict, or for one of three causes
abbrev pub IsRestRead : Option (List ℕ) → Option (List ℕ) → FaultCount → FaultCount → Lexer → ℕ → SolvingJob
    → Result Verdict Stop → Type 0
IsRestRead old new before now s count job (Ok (VerifiedAs claim)) =
    IsBehindHeading old new before now s count job (Verified claim)
IsRestRead old new before now s count job (Ok (RefusedAs line reason)) =
    IsBehindHeading old new before now s count job (Refused line reason)
IsRestRead old new before now s count job (Err TooLong) = IsBehindHeading old new before now s count job CheckTooLong
IsRestRead old new before now s count job (Err ReadFault) = IsBehindHeading old new before now s count job CheckReadFault
IsRestRead old new before now s count job (Err NoMemory) = IsBehindHeading old new before now s count job CheckNoMemory
IsRestRead old new before now s count job (Err Words) = ⊥
IsRestRead old new before now s count job (Err (Text fault)) = ⊥
IsRestRead old new before now s count job (Err Dimensions) = ⊥
IsRestRead old new before now s count job (Err WriteFault) = ⊥
