-- The verdict on an explained document: the instance that is shown to have no packing where the
-- document is verified, else the first refused line, counted from 1, with the reason.
use Rattle.std.specs.Prelude.{ℕ, ◌≡◌, ◌+◌, List, [], ◌∷◌, ◌++◌, Result, Ok, Err, codes}
use Rattle.std.specs.Fmt.{decimal}
use Rattle.packing_terms.specs.Packing.{PlainInstance, Fits}
use Rattle.packing_terms.specs.Limits.{IsInstance}
use Rattle.packing_terms.specs.Results.{◌>>=◌}
use Rattle.text_terms.specs.Lines.{text_lines, line_of}
use Rattle.text_terms.specs.Spelling.{spaced}
use Rattle.text_terms.specs.Feeding.{NumberedLine, lines_fed, new_lexer}
use Rattle.verdict_terms.specs.declared.explained_answers.AuditCode.{AuditCode}
use Rattle.verdict_terms.specs.declared.explained_answers.AuditCode.TheVariants.{Kind, Range, Step, Choice, Conflict, Excess}
use Rattle.verdict_terms.specs.declared.explained_answers.AuditCode.TheVariants.{Side, After}
use Rattle.verdict_terms.specs.declared.explained_reason.ExplainedReason.{ExplainedReason}
use Rattle.verdict_terms.specs.declared.explained_reason.ExplainedReason.TheVariants.{Text, Line, TooShort}
use Rattle.verdict_terms.specs.ExplainedStages.{ExplainedStage, Heading, Ended, stage_after}

-- the first refused line, and why
pub record ExplainedRefusal : Type 0 where
  pub line : ℕ
  pub reason : ExplainedReason

abbrev pub at_line : {A : Type 0} → ℕ → Result A ExplainedReason → Result A ExplainedRefusal
at_line n (Ok x) = Ok x
at_line n (Err reason) = Err (record { line = n; reason = reason })

-- the end of the text after n lines: it comes too early before the line `end`
abbrev pub at_end : ExplainedStage → ℕ → Result PlainInstance ExplainedRefusal
at_end (Ended instance) n = Ok instance
at_end stage n = Err (record { line = n + 1; reason = TooShort })

-- the lines after the first n
abbrev pub read_lines : ExplainedStage → ℕ → List (List ℕ) → Result PlainInstance ExplainedRefusal
read_lines stage n [] = at_end stage n
read_lines stage n (line ∷ lines) =
    at_line (n + 1) (stage_after stage (line_of line)) >>= λ next. read_lines next (n + 1) lines

-- the instance without a packing of a text that is verified, or the first refusal
unfoldable pub explained_verdict : List ℕ → Result PlainInstance ExplainedRefusal
explained_verdict text = read_lines Heading 0 (text_lines text)

-- ---- the one line that is written

abbrev pub code_word : AuditCode → List ℕ
code_word Kind = codes "form"
code_word Range = codes "range"
code_word Step = codes "step"
code_word Choice = codes "choice"
code_word Conflict = codes "conflict"
code_word Excess = codes "excess"
code_word Side = codes "side"
code_word After = codes "after"

abbrev pub reason_words : ExplainedReason → List (List ℕ)
reason_words (Text k) = codes "text" ∷ decimal k ∷ []
reason_words (Line code) = code_word code ∷ []
reason_words TooShort = codes "short" ∷ []

abbrev pub explained_words : Result PlainInstance ExplainedRefusal → List (List ℕ)
explained_words (Ok instance) = codes "verified" ∷ codes "explained" ∷ codes "fit" ∷ codes "no" ∷ []
explained_words (Err refusal) = codes "refused" ∷ decimal refusal.line ∷ reason_words refusal.reason

-- the line, which a line feed ends
abbrev pub explained_line : Result PlainInstance ExplainedRefusal → List ℕ
explained_line verdict = spaced (explained_words verdict) ++ 10 ∷ []

-- verified has status 0, refused has status 1
abbrev pub explained_status : Result PlainInstance ExplainedRefusal → ℕ
explained_status (Ok instance) = 0
explained_status (Err refusal) = 1

-- ---- the laws

-- lines as a lexer gives them, behind the first n
abbrev pub told_verdict : ExplainedStage → ℕ → List NumberedLine → Result PlainInstance ExplainedRefusal
told_verdict stage n [] = at_end stage n
told_verdict stage n (l ∷ ls) = at_line l.number (stage_after stage l.line) >>= λ next. told_verdict next l.number ls

-- the lines that a lexer gives for the bytes of a text, taken one by one, give its verdict
abbrev pub DocumentsAreFed : Type 0
DocumentsAreFed = (text : List ℕ) → told_verdict Heading 0 (lines_fed new_lexer text) ≡ explained_verdict text

-- what a verified document shows of its instance
pub record IsShown (instance : PlainInstance) : Type 0 where
  pub limits : IsInstance instance
  pub none : Fits instance → ⊥

abbrev pub DocumentsAreTrue : Type 0
DocumentsAreTrue = (text : List ℕ) (instance : PlainInstance) → explained_verdict text ≡ Ok instance → IsShown instance
