-- What explaining a document came to: its text and its status.
use Rattle.std.specs.Prelude.{ℕ, List, Err}
use Rattle.packing_terms.specs.Limits.{IsInstance}
use Rattle.verdict_terms.specs.Documents.{verdict_line}
use Rattle.answer_terms.specs.Explained.{explained_text}
use Rattle.answer_streams.specs.declared.explained.Explanation.{Explanation}
use Rattle.answer_streams.specs.declared.explained.Explanation.TheVariants.{Refused, Explained}

-- the line of a refusal, or the document
abbrev pub explanation_text : Explanation → List ℕ
explanation_text (Refused line reason) = verdict_line (Err (record { line = line; reason = reason }))
explanation_text (Explained instance steps) = explained_text instance steps

abbrev pub explanation_status : Explanation → ℕ
explanation_status (Refused line reason) = 1
explanation_status (Explained instance steps) = 0

-- an instance that is written is within the limits
abbrev pub IsWritable : Explanation → Type 0
IsWritable (Refused line reason) = Unit {0}
IsWritable (Explained instance steps) = IsInstance instance
