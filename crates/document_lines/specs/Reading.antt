-- Reading a document from a source, a byte at a time.
use Rattle.std.specs.Prelude.{ℕ, pred, ◌+◌, ◌≤◌, ◌≡◌, ◌⊎◌, List, [], ◌∷◌, ◌++◌, length, take, Bool, true, Option, Some}
use Rattle.std.specs.Prelude.{None, Result, Ok, Err}
use Rattle.std.specs.List.{slice_split}
use Rattle.std.specs.Io.KnownBytes.{IsAtEnd}
use Rattle.pack_streams.specs.Faults.{FaultCount, Stays, FailedOnce}
use Rattle.pack_streams.specs.Moves.{Consumed}
use Rattle.text_terms.specs.Lines.{is_line_feed}
use Rattle.text_terms.specs.Feeding.{Lexer, ended_line, feed}
use Rattle.text_terms.specs.declared.claim.Claim.{Claim}
use Rattle.verdict_terms.specs.declared.heading.Heading.{Heading}
use Rattle.verdict_terms.specs.declared.heading.Heading.TheVariants.{Answer}
use Rattle.verdict_terms.specs.Stages.{Stage, stage_after}
use Rattle.verdict_terms.specs.Stages.Stage.{Ended}
use Rattle.verdict_terms.specs.Documents.{Refusal, document_at_end, headed_verdict}
use Rattle.verdict_terms.specs.Fed.{fed_verdict, NoneRefusedUnder, EndsRefused}
use Rattle.document_lines.specs.declared.judge.LineStop.{LineStop}
use Rattle.document_lines.specs.declared.judge.LineStop.TheVariants.{Refused as LineRefused, NoMemory as LineNoMemory}
use Rattle.document_lines.specs.declared.judge.ReadEnd.{ReadEnd}
use Rattle.document_lines.specs.declared.judge.ReadEnd.TheVariants.{End, Paused, Refused, TooLong, ReadFault, NoMemory}

-- what takes lines is seen as: where the document stands, whether the next line is for it, and
-- where the document stands behind its lines, where that is known before
pub record PlainJudge : Type 0 where
  pub stage : Stage
  pub takes : Bool
  pub behind : Option Stage

abbrev pub IsAt : Option Stage → Stage → Type 0
IsAt None stage = Unit {0}
IsAt (Some behind) stage = stage ≡ behind

-- a line that was taken at a stage: the next stage, or the reason of the refusal
abbrev pub Judges : Stage → Lexer → Stage → Result (Unit {0}) LineStop → Type 0
Judges old line new (Ok u) = stage_after old (ended_line line.held) ≡ Ok new
Judges old line new (Err (LineRefused reason)) = stage_after old (ended_line line.held) ≡ Err reason
Judges old line new (Err LineNoMemory) = Unit {0}

-- what these bytes leave: whatever follows gives the verdict of the whole under this heading, and as
-- many lines have ended as there are line feeds
pub record IsSoFar (heading : Heading) (s : Lexer) (stage : Stage) (taken : List ℕ) : Type 0 where
  pub goes : (rest : List ℕ) → fed_verdict s stage rest ≡ headed_verdict heading (taken ++ rest)
  pub number : s.number + 1 ≡ length (slice_split is_line_feed taken)

-- bytes that begin with these
abbrev pub Begins : List ℕ → List ℕ → Type 0
Begins front bytes = (rest : List ℕ) × (bytes ≡ front ++ rest)

-- `count` bytes were taken, of which `front` were the first
pub record IsTaking (heading : Heading) (front : List ℕ) (old now : Option (List ℕ)) (s : Lexer) (stage : Stage)
    (count : ℕ) : Type 0 where
  pub taken : List ℕ
  pub begins : Begins front taken
  pub gives : Consumed old now taken
  pub counted : length taken ≡ count
  pub so_far : IsSoFar heading s stage taken

-- the bytes taken are enough for a refusal: they end in the line feed of the refused line, or they
-- are the whole input and no line of them that a line feed ends is refused
abbrev pub AreEnoughUnder : Heading → Option (List ℕ) → List ℕ → Refusal → Type 0
AreEnoughUnder heading left taken refusal = EndsRefused taken refusal ⊎ (IsAtEnd left × NoneRefusedUnder heading taken)

-- the same of an answer
abbrev pub AreBytesEnough : Option (List ℕ) → List ℕ → Refusal → Type 0
AreBytesEnough left taken refusal = AreEnoughUnder Answer left taken refusal

-- no line that was whole before the last of these bytes is refused
abbrev pub NoneBeforeUnder : Heading → List ℕ → Type 0
NoneBeforeUnder heading bytes = NoneRefusedUnder heading (take (pred (length bytes)) bytes)

-- the same of an answer
abbrev pub NoneRefusedBefore : List ℕ → Type 0
NoneRefusedBefore bytes = NoneBeforeUnder Answer bytes

-- what the reading came to, by the bytes taken
abbrev pub EndsAs : Heading → ℕ → Option (List ℕ) → List ℕ → Lexer → Stage → ℕ → ReadEnd → Type 0
EndsAs heading limit left taken s stage count End =
    IsAtEnd left × (length taken ≤ limit) × (headed_verdict heading taken ≡ document_at_end stage s.number)
    × NoneRefusedUnder heading taken
EndsAs heading limit left taken s stage count Paused = (length taken ≡ count) × IsSoFar heading s stage taken
EndsAs heading limit left taken s stage count (Refused reason) =
    (headed_verdict heading taken ≡ Err (record { line = s.number; reason = reason })) × (length taken ≤ limit)
    × AreEnoughUnder heading left taken (record { line = s.number; reason = reason })
EndsAs heading limit left taken s stage count TooLong =
    (length taken ≡ limit + 1) × NoneRefusedUnder heading (take limit taken)
EndsAs heading limit left taken s stage count ReadFault = (length taken ≤ limit) × NoneRefusedUnder heading taken
EndsAs heading limit left taken s stage count NoMemory = (length taken ≤ limit) × NoneBeforeUnder heading taken

-- the count of faults of the source: by an exact one, the first read that fails is the last
abbrev pub CountsLines : FaultCount → FaultCount → ReadEnd → Type 0
CountsLines before now ReadFault = FailedOnce before now
CountsLines before now End = Stays before now
CountsLines before now Paused = Stays before now
CountsLines before now (Refused reason) = Stays before now
CountsLines before now TooLong = Stays before now
CountsLines before now NoMemory = Stays before now

pub record IsRead (heading : Heading) (front : List ℕ) (limit : ℕ) (old left : Option (List ℕ))
    (before now : FaultCount) (s : Lexer) (stage : Stage) (count : ℕ) (result : ReadEnd) : Type 0 where
  pub taken : List ℕ
  pub begins : Begins front taken
  pub gives : Consumed old left taken
  pub faults : CountsLines before now result
  pub ends : EndsAs heading limit left taken s stage count result

-- What a reading does under any heading, behind any bytes that were taken before: `front` are the first of
-- them, and `first` is what the source held before these.
abbrev pub IsReadBehind : ℕ → Option (List ℕ) → Option (List ℕ) → FaultCount → FaultCount → Lexer → Stage → ℕ → Lexer
    → Stage → ℕ → ReadEnd → Type 0
IsReadBehind limit old left before now s stage n new next count result =
    (heading : Heading) (front : List ℕ) (first : Option (List ℕ)) → IsTaking heading front first old s stage n
    → IsRead heading front limit first left before now new next count result

-- a byte that was taken: whatever follows, the verdict goes on from what is held now; or the byte
-- ends a line that is refused
abbrev pub TakesByte : Lexer → Stage → ℕ → Lexer → Stage → Result (Unit {0}) LineStop → Type 0
TakesByte s stage b new next (Ok u) =
    (new ≡ feed b s) × ((rest : List ℕ) → fed_verdict s stage (b ∷ rest) ≡ fed_verdict new next rest)
TakesByte s stage b new next (Err (LineRefused reason)) =
    (new ≡ feed b s) × (is_line_feed b ≡ true)
    × ((rest : List ℕ) → fed_verdict s stage (b ∷ rest) ≡ Err (record { line = new.number; reason = reason }))
TakesByte s stage b new next (Err LineNoMemory) = Unit {0}

-- the end of the bytes: the verdict is that of the stage at the end, or the line begun is refused
abbrev pub TakesEnd : Lexer → Stage → Lexer → Stage → ReadEnd → Type 0
TakesEnd s stage new next End = fed_verdict s stage [] ≡ document_at_end next new.number
TakesEnd s stage new next (Refused reason) =
    fed_verdict s stage [] ≡ Err (record { line = new.number; reason = reason })
TakesEnd s stage new next Paused = ⊥
TakesEnd s stage new next TooLong = ⊥
TakesEnd s stage new next ReadFault = ⊥
TakesEnd s stage new next NoMemory = Unit {0}

-- the claim of a document whose `end` was read
abbrev pub ended_claim : Stage → Option Claim
ended_claim (Ended claim) = Some claim
ended_claim _ = None
