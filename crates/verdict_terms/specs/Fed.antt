-- Documents fed byte by byte: a lexer reports each line as it ends, and the line is taken at once.
-- Nothing of a line is kept.
use Rattle.std.specs.Prelude.{ℕ, ◌≡◌, cond, List, [], ◌∷◌, ◌++◌, length, Result, Err}
use Rattle.text_terms.specs.Lines.{text_lines, is_line_feed}
use Rattle.packing_terms.specs.Results.{◌>>=◌}
use Rattle.text_terms.specs.Feeding.{Lexer, new_lexer, ended_line, feed, finish}
use Rattle.text_terms.specs.declared.claim.Claim.{Claim}
use Rattle.verdict_terms.specs.declared.heading.Heading.{Heading}
use Rattle.verdict_terms.specs.declared.heading.Heading.TheVariants.{Answer}
use Rattle.verdict_terms.specs.Stages.{Stage, stage_after}
use Rattle.verdict_terms.specs.Stages.Stage.{Beginning}
use Rattle.verdict_terms.specs.Documents.{Refusal, document_at_line, document_at_end, headed_verdict}

-- what the line that ended last makes of the stage
abbrev pub taken_line : Stage → Lexer → Result Stage Refusal
taken_line stage s = document_at_line s.number (stage_after stage (ended_line s.held))

-- the verdict of these bytes, behind what is held of a line begun and the stage of the lines before
abbrev pub fed_verdict : Lexer → Stage → List ℕ → Result Claim Refusal
fed_verdict s stage [] = cond s.begun (taken_line stage (finish s) >>= λ next. document_at_end next (finish s).number)
    (document_at_end stage s.number)
fed_verdict s stage (b ∷ bytes) =
    cond (is_line_feed b) (taken_line stage (feed b s) >>= λ next. fed_verdict (feed b s) next bytes)
    (fed_verdict (feed b s) stage bytes)

-- the bytes of a document, fed from its start with each line taken as it ends, give its verdict
abbrev pub DocumentsAreFed : Type 0
DocumentsAreFed = (heading : Heading) (text : List ℕ)
    → fed_verdict new_lexer (Beginning heading) text ≡ headed_verdict heading text

-- The refused line is the last of the bytes, and a line feed ends it: nothing behind it is there.
pub record EndsRefused (bytes : List ℕ) (refusal : Refusal) : Type 0 where
  pub front : List ℕ
  pub are : bytes ≡ front ++ 10 ∷ []
  pub is_last : refusal.line ≡ length (text_lines bytes)

-- no line of the bytes that a line feed ends is refused: no front of them ends in the line feed of
-- a refused line
abbrev pub NoneRefusedUnder : Heading → List ℕ → Type 0
NoneRefusedUnder heading bytes = (front rest : List ℕ) (refusal : Refusal) → bytes ≡ front ++ rest
    → EndsRefused front refusal → headed_verdict heading front ≡ Err refusal → ⊥

-- the same of an answer
abbrev pub NoneRefused : List ℕ → Type 0
NoneRefused bytes = NoneRefusedUnder Answer bytes

-- a refusal of bytes that its line ends is the refusal of every text that begins with them
abbrev pub RefusalsStay : Type 0
RefusalsStay = (heading : Heading) (bytes more : List ℕ) (refusal : Refusal)
    → headed_verdict heading bytes ≡ Err refusal → EndsRefused bytes refusal
    → headed_verdict heading (bytes ++ more) ≡ Err refusal
