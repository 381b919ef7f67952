-- The verdict on a document: its claim where it is verified, else the first refused line, counted
-- from 1, with the reason.
use Rattle.std.specs.Prelude.{ℕ, ◌+◌, List, [], ◌∷◌, ◌++◌, Result, Ok, Err, codes}
use Rattle.std.specs.Fmt.{decimal}
use Rattle.text_terms.specs.Lines.{text_lines, line_of}
use Rattle.packing_terms.specs.Results.{◌>>=◌}
use Rattle.text_terms.specs.Spelling.{spaced}
use Rattle.text_terms.specs.declared.claim.Claim.{Claim}
use Rattle.text_terms.specs.Claims.{job_of, job_word, result_words}
use Rattle.verdict_terms.specs.declared.heading.Heading.{Heading}
use Rattle.verdict_terms.specs.declared.heading.Heading.TheVariants.{Answer, Reduced, Bounded}
use Rattle.verdict_terms.specs.declared.reason.Reason.{Reason}
use Rattle.verdict_terms.specs.Reasons.{reason_words}
use Rattle.verdict_terms.specs.declared.reason.Reason.TheVariants.{TooShort}
use Rattle.verdict_terms.specs.Stages.{Stage, stage_after}
use Rattle.verdict_terms.specs.Stages.Stage.{Beginning, Ended}

-- the first refused line, and why
pub record Refusal : Type 0 where
  pub line : ℕ
  pub reason : Reason

abbrev pub document_at_line : {A : Type 0} → ℕ → Result A Reason → Result A Refusal
document_at_line n (Ok x) = Ok x
document_at_line n (Err reason) = Err (record { line = n; reason = reason })

-- the end of the text after n lines: it comes too early before the line `end`
abbrev pub document_at_end : Stage → ℕ → Result Claim Refusal
document_at_end (Ended claim) n = Ok claim
document_at_end stage n = Err (record { line = n + 1; reason = TooShort })

-- the lines after the first n
abbrev pub read_document_lines : Stage → ℕ → List (List ℕ) → Result Claim Refusal
read_document_lines stage n [] = document_at_end stage n
read_document_lines stage n (line ∷ lines) =
    document_at_line (n + 1) (stage_after stage (line_of line)) >>= λ next. read_document_lines next (n + 1) lines

-- the claim that is verified of a text that has to begin with this heading, or the first refusal
unfoldable pub headed_verdict : Heading → List ℕ → Result Claim Refusal
headed_verdict heading text = read_document_lines (Beginning heading) 0 (text_lines text)

-- that of an answer, that of a reduced document, and that of a bounded one
abbrev pub document_verdict : List ℕ → Result Claim Refusal
document_verdict text = headed_verdict Answer text

abbrev pub reduced_verdict : List ℕ → Result Claim Refusal
reduced_verdict text = headed_verdict Reduced text

abbrev pub bounded_verdict : List ℕ → Result Claim Refusal
bounded_verdict text = headed_verdict Bounded text

-- the words of the one line that is written
abbrev pub verdict_words : Result Claim Refusal → List (List ℕ)
verdict_words (Ok claim) = codes "verified" ∷ job_word (job_of claim) ∷ result_words claim
verdict_words (Err refusal) = codes "refused" ∷ decimal refusal.line ∷ reason_words refusal.reason

-- the line, which a line feed ends
abbrev pub verdict_line : Result Claim Refusal → List ℕ
verdict_line verdict = spaced (verdict_words verdict) ++ 10 ∷ []

-- the same of a reduced document
abbrev pub reduced_verdict_words : Result Claim Refusal → List (List ℕ)
reduced_verdict_words (Ok claim) = codes "verified" ∷ codes "reduced" ∷ job_word (job_of claim) ∷ result_words claim
reduced_verdict_words (Err refusal) = verdict_words (Err refusal)

abbrev pub reduced_verdict_line : Result Claim Refusal → List ℕ
reduced_verdict_line verdict = spaced (reduced_verdict_words verdict) ++ 10 ∷ []

-- the same of a bounded document
abbrev pub bounded_verdict_words : Result Claim Refusal → List (List ℕ)
bounded_verdict_words (Ok claim) = codes "verified" ∷ codes "bounded" ∷ job_word (job_of claim) ∷ result_words claim
bounded_verdict_words (Err refusal) = verdict_words (Err refusal)

abbrev pub bounded_verdict_line : Result Claim Refusal → List ℕ
bounded_verdict_line verdict = spaced (bounded_verdict_words verdict) ++ 10 ∷ []
