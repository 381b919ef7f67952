-- What the check of a document promises. `taken` are the bytes that were taken from the source.
use Rattle.std.specs.Prelude.{ℕ, ◌+◌, ◌≤◌, ◌≡◌, ◌⊎◌, List, length, take, Result, Ok, Err}
use Rattle.std.specs.declared.option.Option.{Option}
use Rattle.std.specs.Io.KnownBytes.{IsAtEnd}
use Rattle.text_terms.specs.declared.claim.Claim.{Claim}
use Rattle.text_terms.specs.Claims.{IsTrueOf}
use Rattle.pack_streams.specs.Moves.{Consumed, Appended}
use Rattle.pack_streams.specs.Writing.{AppendedPrefix}
use Rattle.verdict_terms.specs.declared.heading.Heading.{Heading}
use Rattle.verdict_terms.specs.declared.heading.Heading.TheVariants.{Answer}
use Rattle.verdict_terms.specs.Documents.{Refusal, headed_verdict, document_verdict, verdict_line}
use Rattle.verdict_terms.specs.Fed.{NoneRefusedUnder}
use Rattle.verdict_terms.specs.Form.{IsDocument}
use Rattle.document_lines.specs.Reading.{AreEnoughUnder, NoneBeforeUnder}
use Rattle.document_check.specs.Checked.{max_check_bytes}
use Rattle.pack_command.specs.declared.stop.Stop.{Stop}
use Rattle.pack_command.specs.declared.stop.Stop.TheVariants.{Words, TooLong, Text, Dimensions, ReadFault, WriteFault}
use Rattle.pack_command.specs.declared.stop.Stop.TheVariants.{NoMemory}
use Rattle.answer_streams.specs.declared.verdict.Verdict.{Verdict}
use Rattle.answer_streams.specs.Verdicts.{plain_verdict, verdict_status}

-- the bytes taken have the verdict of a document with this heading, and are enough for it
abbrev pub HasVerdictUnder : Heading → Option (List ℕ) → List ℕ → Result Claim Refusal → Type 0
HasVerdictUnder heading left taken (Ok claim) =
    (headed_verdict heading taken ≡ Ok claim) × (length taken ≤ max_check_bytes) × IsAtEnd left
HasVerdictUnder heading left taken (Err refusal) =
    (headed_verdict heading taken ≡ Err refusal) × (length taken ≤ max_check_bytes)
    × AreEnoughUnder heading left taken refusal

-- the same of an answer
abbrev pub HasVerdict : Option (List ℕ) → List ℕ → Result Claim Refusal → Type 0
HasVerdict left taken verdict = HasVerdictUnder Answer left taken verdict

-- a verdict was reached
pub record IsVerdictFound (old new : Option (List ℕ)) (verdict : Result Claim Refusal) : Type 0 where
  pub taken : List ℕ
  pub gives : Consumed old new taken
  pub reached : HasVerdict new taken verdict

-- one byte more came than is read, and no line that was whole before it is refused
pub record IsPastLimitUnder (heading : Heading) (old new : Option (List ℕ)) : Type 0 where
  pub taken : List ℕ
  pub gives : Consumed old new taken
  pub past : length taken ≡ max_check_bytes + 1
  pub none : NoneRefusedUnder heading (take max_check_bytes taken)

-- the input broke off, and no line that was whole before is refused
pub record IsBrokenOffUnder (heading : Heading) (old new : Option (List ℕ)) : Type 0 where
  pub taken : List ℕ
  pub gives : Consumed old new taken
  pub within : length taken ≤ max_check_bytes
  pub none : NoneRefusedUnder heading taken

-- memory was refused, and no line that was whole before is refused
pub record IsGivenUpUnder (heading : Heading) (old new : Option (List ℕ)) : Type 0 where
  pub taken : List ℕ
  pub gives : Consumed old new taken
  pub within : length taken ≤ max_check_bytes
  pub none : NoneBeforeUnder heading taken

-- the same of an answer
abbrev pub IsPastLimit : Option (List ℕ) → Option (List ℕ) → Type 0
IsPastLimit old new = IsPastLimitUnder Answer old new

abbrev pub IsReadFailed : Option (List ℕ) → Option (List ℕ) → Type 0
IsReadFailed old new = IsBrokenOffUnder Answer old new

abbrev pub IsOutOfMemory : Option (List ℕ) → Option (List ℕ) → Type 0
IsOutOfMemory old new = IsGivenUpUnder Answer old new

-- the verdict, or why there is none
abbrev pub IsVerdict : Option (List ℕ) → Option (List ℕ) → Result Verdict Stop → Type 0
IsVerdict old new (Ok verdict) = IsVerdictFound old new (plain_verdict verdict)
IsVerdict old new (Err TooLong) = IsPastLimit old new
IsVerdict old new (Err ReadFault) = IsReadFailed old new
IsVerdict old new (Err NoMemory) = IsOutOfMemory old new
IsVerdict old new (Err Words) = ⊥
IsVerdict old new (Err (Text fault)) = ⊥
IsVerdict old new (Err Dimensions) = ⊥
IsVerdict old new (Err WriteFault) = ⊥

-- a verdict was reached, and its whole line was written
pub record IsVerdictWritten (old new sunk_old sunk_new : Option (List ℕ)) (status : ℕ) : Type 0 where
  pub verdict : Result Claim Refusal
  pub found : IsVerdictFound old new verdict
  pub status_is : status ≡ verdict_status verdict
  pub line : Appended sunk_old sunk_new (verdict_line verdict)

-- a verdict was reached, and a part at the front of its line was written
pub record IsLinePartlyWritten (old new sunk_old sunk_new : Option (List ℕ)) : Type 0 where
  pub verdict : Result Claim Refusal
  pub found : IsVerdictFound old new verdict
  pub part : AppendedPrefix sunk_old sunk_new (verdict_line verdict)

-- why a check ended without the line of a verdict
abbrev pub IsWithoutVerdict : (old new sunk_old sunk_new : Option (List ℕ)) → Stop → Type 0
IsWithoutVerdict old new sunk_old sunk_new TooLong = IsPastLimit old new × (sunk_new ≡ sunk_old)
IsWithoutVerdict old new sunk_old sunk_new ReadFault = IsReadFailed old new × (sunk_new ≡ sunk_old)
IsWithoutVerdict old new sunk_old sunk_new WriteFault = IsLinePartlyWritten old new sunk_old sunk_new
IsWithoutVerdict old new sunk_old sunk_new NoMemory = IsOutOfMemory old new × (sunk_new ≡ sunk_old)
IsWithoutVerdict old new sunk_old sunk_new Words = ⊥
IsWithoutVerdict old new sunk_old sunk_new (Text fault) = ⊥
IsWithoutVerdict old new sunk_old sunk_new Dimensions = ⊥

-- verified or refused
abbrev pub IsVerdictStatus : ℕ → Type 0
IsVerdictStatus status = (status ≡ 0) ⊎ (status ≡ 1)

-- exactly the line of the verdict on these bytes was written, with its status
pub record IsVerdictOutput (bytes : List ℕ) (sunk_old sunk_new : Option (List ℕ)) (status : ℕ) : Type 0 where
  pub status_is : status ≡ verdict_status (document_verdict bytes)
  pub line : Appended sunk_old sunk_new (verdict_line (document_verdict bytes))

-- The whole input is a document, the claim of the line that was written is its own, and is true of
-- the instance in it.
pub record IsVerifiedClaim (old new sunk_old sunk_new : Option (List ℕ)) : Type 0 where
  pub bytes : List ℕ
  pub taken : Consumed old new bytes
  pub ended : IsAtEnd new
  pub claim : Claim
  pub document : IsDocument bytes claim
  pub holds : IsTrueOf document.instance claim
  pub line : Appended sunk_old sunk_new (verdict_line (Ok claim))
