-- What a job promises that reads a document other than an answer: `audit` and `explain`. They hold it whole, with at
-- most 2 ^ 24 bytes, but for a bounded document, which `audit` reads line by line.
use Rattle.std.specs.Prelude.{ℕ, ◌≡◌, ◌+◌, ◌<◌, ◌≤◌, ◌⊎◌, List, length, Result, Ok, Err, Vec}
use Rattle.std.specs.declared.option.Option.{Option}
use Rattle.std.specs.declared.alloc.Global.{Global}
use Rattle.std.specs.Io.KnownBytes.{IsAtEnd}
use Rattle.pack_streams.specs.Moves.{Consumed, Appended}
use Rattle.pack_streams.specs.Reading.{block}
use Rattle.pack_streams.specs.Writing.{AppendedPrefix}
use Rattle.answer_streams.specs.Audited.{audit_verdict, audit_line, audit_status, IsReportedAs}
use Rattle.answer_streams.specs.declared.audited.AuditedVerdict.{AuditedVerdict}
use Rattle.pack_command.specs.ByLines.{AreHeld, IsBoundedTaken, IsUnaudited, AreAuditable, AreTooMany}
use Rattle.pack_command.specs.Explanations.{IsExplainedTo}
use Rattle.pack_command.specs.Inputs.{max_audit_bytes}
use Rattle.pack_command.specs.declared.stop.Stop.{Stop}
use Rattle.pack_command.specs.declared.stop.Stop.TheVariants.{Words, TooLong, Text, Dimensions, ReadFault, WriteFault}
use Rattle.pack_command.specs.declared.stop.Stop.TheVariants.{NoMemory}

-- what is done with the document
pub data DocumentTask : Type 0 where
  Audits : DocumentTask
  Explains : DocumentTask

-- the status and the text that a document comes to
abbrev pub HasTaskResult : DocumentTask → List ℕ → ℕ → List ℕ → Type 0
HasTaskResult Audits bytes status text =
    (status ≡ audit_status (audit_verdict bytes)) × (text ≡ audit_line (audit_verdict bytes))
HasTaskResult Explains bytes status text = IsExplainedTo bytes status text

-- these bytes are all that the source had to give, and not too many
pub record IsWholeDocument (old new : Option (List ℕ)) (bytes : List ℕ) : Type 0 where
  pub taken : Consumed old new bytes
  pub ended : IsAtEnd new
  pub within : length bytes ≤ max_audit_bytes

-- the bytes of the whole input, or why there are none
abbrev pub IsDocumentRead : Option (List ℕ) → Option (List ℕ) → Result (Vec ℕ Global) Stop → Type 0
IsDocumentRead old new (Ok bytes) = IsWholeDocument old new bytes.items
IsDocumentRead old new (Err TooLong) =
    (bytes : List ℕ) × Consumed old new bytes × (max_audit_bytes < length bytes) × (length bytes ≤ max_audit_bytes + block)
IsDocumentRead old new (Err ReadFault) = (bytes : List ℕ) × Consumed old new bytes × (length bytes ≤ max_audit_bytes)
IsDocumentRead old new (Err NoMemory) =
    (bytes : List ℕ) × Consumed old new bytes × (length bytes ≤ max_audit_bytes + block)
IsDocumentRead old new (Err Words) = ⊥
IsDocumentRead old new (Err (Text fault)) = ⊥
IsDocumentRead old new (Err Dimensions) = ⊥
IsDocumentRead old new (Err WriteFault) = ⊥

-- These bytes were taken, and are enough: all that the source had to give; or, of a bounded document that `audit`
-- reads line by line, those that its verdict rests on.
abbrev pub IsDocumentTaken : DocumentTask → Option (List ℕ) → Option (List ℕ) → List ℕ → Type 0
IsDocumentTaken Audits old new bytes = (AreHeld bytes × IsWholeDocument old new bytes) ⊎ IsBoundedTaken old new bytes
IsDocumentTaken Explains old new bytes = IsWholeDocument old new bytes

-- why they weren't
abbrev pub IsUntaken : DocumentTask → Option (List ℕ) → Option (List ℕ) → Stop → Type 0
IsUntaken Audits old new stop = IsUnaudited old new stop
IsUntaken Explains old new stop = IsDocumentRead old new (Err stop)

-- not more bytes than the job reads
abbrev pub AreFew : DocumentTask → List ℕ → Type 0
AreFew Audits bytes = AreAuditable bytes
AreFew Explains bytes = length bytes ≤ max_audit_bytes

-- more bytes than the job reads
abbrev pub ArePast : DocumentTask → List ℕ → Type 0
ArePast Audits bytes = AreTooMany bytes
ArePast Explains bytes = max_audit_bytes < length bytes

-- enough of the input was taken, and the text that it comes to was written whole
pub record IsReadingDone (task : DocumentTask) (old new sunk_old sunk_new : Option (List ℕ)) (status : ℕ) : Type 0 where
  pub bytes : List ℕ
  pub input : IsDocumentTaken task old new bytes
  pub text : List ℕ
  pub comes : HasTaskResult task bytes status text
  pub written : Appended sunk_old sunk_new text

-- enough of the input was taken, and a part at the front of the text was written
pub record IsTaskPartlyWritten (task : DocumentTask) (old new sunk_old sunk_new : Option (List ℕ)) : Type 0 where
  pub bytes : List ℕ
  pub input : IsDocumentTaken task old new bytes
  pub status : ℕ
  pub text : List ℕ
  pub comes : HasTaskResult task bytes status text
  pub part : AppendedPrefix sunk_old sunk_new text

-- why the job ended without its text
abbrev pub IsWithoutReading : DocumentTask → (old new sunk_old sunk_new : Option (List ℕ)) → Stop → Type 0
IsWithoutReading task old new sunk_old sunk_new TooLong = IsUntaken task old new TooLong × (sunk_new ≡ sunk_old)
IsWithoutReading task old new sunk_old sunk_new ReadFault = IsUntaken task old new ReadFault × (sunk_new ≡ sunk_old)
IsWithoutReading task old new sunk_old sunk_new NoMemory = IsUntaken task old new NoMemory × (sunk_new ≡ sunk_old)
IsWithoutReading task old new sunk_old sunk_new WriteFault = IsTaskPartlyWritten task old new sunk_old sunk_new
IsWithoutReading task old new sunk_old sunk_new Words = ⊥
IsWithoutReading task old new sunk_old sunk_new (Text fault) = ⊥
IsWithoutReading task old new sunk_old sunk_new Dimensions = ⊥

-- exactly the text that these bytes come to was written, with its status
pub record IsTaskOutput (task : DocumentTask) (bytes : List ℕ) (sunk_old sunk_new : Option (List ℕ)) (status : ℕ) :
    Type 0 where
  pub text : List ℕ
  pub comes : HasTaskResult task bytes status text
  pub written : Appended sunk_old sunk_new text

-- the verdict of an audit, or why there is none
abbrev pub IsAuditRead : Option (List ℕ) → Option (List ℕ) → Result AuditedVerdict Stop → Type 0
IsAuditRead old new (Ok verdict) =
    (bytes : List ℕ) × IsDocumentTaken Audits old new bytes × IsReportedAs (audit_verdict bytes) verdict
IsAuditRead old new (Err stop) = IsUnaudited old new stop
