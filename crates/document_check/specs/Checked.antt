-- What the check of a document comes to. `taken` are the bytes that were taken from the source.
use Rattle.std.specs.Prelude.{ℕ, ◌+◌, ◌≤◌, ◌≡◌, List, length, take, Option, Ok, Err}
use Rattle.std.specs.Io.KnownBytes.{IsAtEnd}
use Rattle.pack_streams.specs.Faults.{FaultCount, Stays, FailedOnce}
use Rattle.pack_streams.specs.Moves.{Consumed}
use Rattle.verdict_terms.specs.declared.heading.Heading.{Heading}
use Rattle.verdict_terms.specs.declared.heading.Heading.TheVariants.{Answer}
use Rattle.verdict_terms.specs.Documents.{headed_verdict}
use Rattle.verdict_terms.specs.Fed.{NoneRefusedUnder}
use Rattle.text_terms.specs.Feeding.{Lexer}
use Rattle.verdict_terms.specs.Stages.{Stage}
use Rattle.document_lines.specs.Reading.{AreEnoughUnder, NoneBeforeUnder, Begins, IsTaking}
use Rattle.document_check.specs.declared.check.CheckEnd.{CheckEnd}
use Rattle.document_check.specs.declared.check.CheckEnd.TheVariants.{Verified, Refused, TooLong, ReadFault, NoMemory}

-- the most bytes that are read: 2 ^ 40
abbrev pub max_check_bytes : ℕ
max_check_bytes = 1099511627776

-- Verified: the whole input is a document of the claim. Refused: by the bytes taken, of which none
-- stands behind the refused line. Too long, by one byte, or a read fault: no line that was whole
-- before is refused. Want of memory is the one free answer, and no line is refused before it.
abbrev pub Comes : Heading → Option (List ℕ) → List ℕ → CheckEnd → Type 0
Comes heading left taken (Verified claim) =
    (headed_verdict heading taken ≡ Ok claim) × (length taken ≤ max_check_bytes) × IsAtEnd left
Comes heading left taken (Refused line reason) =
    (headed_verdict heading taken ≡ Err (record { line = line; reason = reason }))
    × (length taken ≤ max_check_bytes)
    × AreEnoughUnder heading left taken (record { line = line; reason = reason })
Comes heading left taken TooLong =
    (length taken ≡ max_check_bytes + 1) × NoneRefusedUnder heading (take max_check_bytes taken)
Comes heading left taken ReadFault = (length taken ≤ max_check_bytes) × NoneRefusedUnder heading taken
Comes heading left taken NoMemory = (length taken ≤ max_check_bytes) × NoneBeforeUnder heading taken

-- the count of faults of the source: by an exact one, the first read that fails is the last
abbrev pub CountsCheck : FaultCount → FaultCount → CheckEnd → Type 0
CountsCheck before now ReadFault = FailedOnce before now
CountsCheck before now (Verified claim) = Stays before now
CountsCheck before now (Refused line reason) = Stays before now
CountsCheck before now TooLong = Stays before now
CountsCheck before now NoMemory = Stays before now

-- what the check of a document with this heading takes from a source, and what it comes to
pub record IsCheckedUnder (heading : Heading) (old left : Option (List ℕ)) (before now : FaultCount)
    (result : CheckEnd) : Type 0 where
  pub taken : List ℕ
  pub gives : Consumed old left taken
  pub faults : CountsCheck before now result
  pub comes : Comes heading left taken result

-- the same of an answer
abbrev pub IsChecked : Option (List ℕ) → Option (List ℕ) → FaultCount → FaultCount → CheckEnd → Type 0
IsChecked old left before now result = IsCheckedUnder Answer old left before now result

-- the same of bytes that begin with these, which were taken before
pub record IsCheckedBehind (heading : Heading) (front : List ℕ) (old left : Option (List ℕ)) (before now : FaultCount)
    (result : CheckEnd) : Type 0 where
  pub taken : List ℕ
  pub begins : Begins front taken
  pub gives : Consumed old left taken
  pub faults : CountsCheck before now result
  pub comes : Comes heading left taken result

-- What the rest of a document comes to under any heading, behind `count` bytes that were taken before and left
-- the document at a stage: `front` are the first of them, and `first` is what the source held before these.
abbrev pub IsRestChecked : Option (List ℕ) → Option (List ℕ) → FaultCount → FaultCount → Lexer → Stage → ℕ → CheckEnd
    → Type 0
IsRestChecked old left before now s stage count result =
    (heading : Heading) (front : List ℕ) (first : Option (List ℕ)) → IsTaking heading front first old s stage count
    → IsCheckedBehind heading front first left before now result
