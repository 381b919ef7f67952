-- The lines of a document of a front, taken as a lexer gives them while its bytes are fed.
use Rattle.std.specs.Prelude.{ℕ, ◌≡◌, List, [], ◌∷◌, Result}
use Rattle.packing_terms.specs.Results.{◌>>=◌}
use Rattle.text_terms.specs.Feeding.{NumberedLine, lines_fed, new_lexer}
use Rattle.verdict_terms.specs.Documents.{Refusal, document_at_line}
use Rattle.verdict_terms.specs.FrontDocumentVerdicts.{DocumentStage, Opening, FrontRead, front_stage_after, front_at_end}
use Rattle.verdict_terms.specs.FrontDocumentVerdicts.{front_document_verdict}

-- lines as a lexer gives them, behind the first n
abbrev pub told_front_verdict : DocumentStage → ℕ → List NumberedLine → Result FrontRead Refusal
told_front_verdict stage n [] = front_at_end stage n
told_front_verdict stage n (l ∷ ls) =
    document_at_line l.number (front_stage_after stage l.line) >>= λ next. told_front_verdict next l.number ls

-- the lines that a lexer gives for the bytes of a text, taken one by one, give its verdict
abbrev pub FrontsAreFed : Type 0
FrontsAreFed = (text : List ℕ) → told_front_verdict Opening 0 (lines_fed new_lexer text) ≡ front_document_verdict text
