-- What reading the opening of a document from a source does.
use Rattle.std.specs.Prelude.{ℕ, ◌≡◌, ◌+◌, ◌<◌, ◌≤◌, ◌++◌, Bool, true, false, not, ◌&&◌, List, length, take}
use Rattle.std.specs.Prelude.{Option, Some, None, Result, Ok, Err, Vec}
use Rattle.std.specs.declared.alloc.Global.{Global}
use Rattle.std.specs.Io.KnownBytes.{IsAtEnd}
use Rattle.pack_streams.specs.Faults.{FaultCount, Stays, FailedOnce}
use Rattle.pack_streams.specs.Moves.{Consumed}
use Rattle.pack_streams.specs.Reading.{block}
use Rattle.pack_streams.specs.declared.moves.ReadStop.{ReadStop}
use Rattle.pack_streams.specs.declared.moves.ReadStop.TheVariants.{ReadFault, TooLong, NoMemory}
use Rattle.text_terms.specs.Texts.{no_parts}
use Rattle.text_terms.specs.Feeding.{Lexer, ended_line}
use Rattle.text_terms.specs.Lines.{is_line_feed}
use Rattle.verdict_terms.specs.Stages.{is_blank}
use Rattle.text_terms.specs.declared.claim.SolvingJob.{SolvingJob}
use Rattle.verdict_terms.specs.declared.heading.Heading.TheVariants.{Bounded as UnderBounded}
use Rattle.verdict_terms.specs.Stages.Stage.{Reading}
use Rattle.verdict_terms.specs.declared.kind.DocumentKind.{DocumentKind}
use Rattle.verdict_terms.specs.declared.kind.DocumentKind.TheVariants.{Bounded}
use Rattle.verdict_terms.specs.Kinds.{bounded_job, document_kind}
use Rattle.document_lines.specs.Reading.{IsTaking}
use Rattle.document_audits.specs.Openings.{tells_kind, IsReadWhole}
use Rattle.document_audits.specs.declared.opening.Opened.{Opened}
use Rattle.document_audits.specs.declared.opening.Opened.TheVariants.{Whole, Begun}
use Rattle.document_audits.specs.declared.opening.Opening.{Opening}

-- `count` bytes were taken, up to the line feed that ends the heading of a bounded document: they show its kind,
-- and its other lines are still to come. The heading names the job.
pub record IsBegun (limit : ℕ) (old new : Option (List ℕ)) (lexer : Lexer) (count : ℕ) (job : SolvingJob) :
    Type 0 where
  pub opening : List ℕ
  pub told : tells_kind opening ≡ true
  pub kind : document_kind opening ≡ Bounded
  pub within : length opening ≤ limit
  pub few : count ≤ limit
  pub number : lexer.number ≤ count
  pub taking : IsTaking UnderBounded opening old new lexer (Reading UnderBounded job no_parts) count

-- A document that is held whole was taken to its end; of one that is read by lines its opening was taken. Or the
-- former has more bytes than the limit, of which not more than one block beyond it was taken; or the source
-- failed before; or memory was refused.
abbrev pub IsOpened : ℕ → Option (List ℕ) → Option (List ℕ) → Result Opened ReadStop → Type 0
IsOpened limit old new (Ok (Whole bytes)) =
    Consumed old new bytes.items × IsAtEnd new × (length bytes.items ≤ limit) × IsReadWhole limit bytes.items
IsOpened limit old new (Ok (Begun lexer count job)) = IsBegun limit old new lexer count job
IsOpened limit old new (Err TooLong) =
    (bytes : List ℕ) × Consumed old new bytes × (limit < length bytes) × (length bytes ≤ limit + block)
    × IsReadWhole limit bytes
IsOpened limit old new (Err ReadFault) =
    (bytes : List ℕ) × Consumed old new bytes × (length bytes ≤ limit) × IsReadWhole limit bytes
IsOpened limit old new (Err NoMemory) = (bytes : List ℕ) × Consumed old new bytes × (length bytes ≤ limit + block)

-- the count of faults of the source: by an exact one, the first read that fails is the last
abbrev pub CountsOpening : {A : Type 0} → FaultCount → FaultCount → Result A ReadStop → Type 0
CountsOpening before now (Ok opened) = Stays before now
CountsOpening before now (Err TooLong) = Stays before now
CountsOpening before now (Err ReadFault) = FailedOnce before now
CountsOpening before now (Err NoMemory) = Stays before now

-- ---- the steps

-- whether the byte ended a line that isn't blank: a lexer holds what it kept of that line
abbrev pub ends_filled : ℕ → Lexer → Bool
ends_filled b s = is_line_feed b && not (is_blank (ended_line s.held))

-- Up to the end of the source, or up to the line feed of the first line that isn't blank.
abbrev pub IsOpeningBy : Option (List ℕ) → Option (List ℕ) → List ℕ → Lexer → Option DocumentKind → Type 0
IsOpeningBy old new bytes lexer None = Consumed old new bytes × IsAtEnd new × (tells_kind bytes ≡ false)
IsOpeningBy old new bytes lexer (Some kind) =
    Consumed old new bytes × (tells_kind bytes ≡ true) × (document_kind bytes ≡ kind)
    × (kind ≡ Bounded
    → IsTaking UnderBounded bytes old new lexer (Reading UnderBounded (bounded_job lexer.held.words) no_parts)
    (length bytes))

abbrev pub IsOpeningRead : ℕ → Option (List ℕ) → Option (List ℕ) → Result Opening ReadStop → Type 0
IsOpeningRead limit old new (Ok o) =
    IsOpeningBy old new o.bytes.items o.lexer o.kind × (length o.bytes.items ≤ limit)
    × (o.lexer.number ≤ length o.bytes.items)
IsOpeningRead limit old new (Err TooLong) =
    (bytes : List ℕ) × Consumed old new bytes × (length bytes ≡ limit + 1) × (tells_kind (take limit bytes) ≡ false)
IsOpeningRead limit old new (Err ReadFault) =
    (bytes : List ℕ) × Consumed old new bytes × (length bytes ≤ limit) × (tells_kind bytes ≡ false)
IsOpeningRead limit old new (Err NoMemory) = (bytes : List ℕ) × Consumed old new bytes × (length bytes ≤ limit + 1)

-- the bytes behind those that are held, up to the end of the source
abbrev pub ReadsOn : ℕ → List ℕ → Option (List ℕ) → Option (List ℕ) → Result (Vec ℕ Global) ReadStop → Type 0
ReadsOn limit held old new (Ok bytes) =
    (more : List ℕ) × Consumed old new more × IsAtEnd new × (bytes.items ≡ held ++ more) × (length bytes.items ≤ limit)
ReadsOn limit held old new (Err TooLong) =
    (more : List ℕ) × Consumed old new more × (limit < length held + length more)
    × (length held + length more ≤ limit + block)
ReadsOn limit held old new (Err ReadFault) =
    (more : List ℕ) × Consumed old new more × (length held + length more ≤ limit)
ReadsOn limit held old new (Err NoMemory) =
    (more : List ℕ) × Consumed old new more × (length held + length more ≤ limit + block)
