-- The kind of a document: what its first line that isn't blank says.
use Rattle.std.specs.Prelude.{ℕ, ◌≡◌, ◌||◌, cond, Bool, true, false, List, [], ◌∷◌, Ok, codes}
use Rattle.text_terms.specs.Lines.{Line, line_of, text_lines}
use Rattle.text_terms.specs.Feeding.{NumberedLine, lines_fed, new_lexer}
use Rattle.text_terms.specs.declared.claim.Claim.{Claim}
use Rattle.text_terms.specs.declared.claim.SolvingJob.{SolvingJob}
use Rattle.text_terms.specs.declared.claim.SolvingJob.TheVariants.{Strip, Knapsack}
use Rattle.verdict_terms.specs.Documents.{reduced_verdict, bounded_verdict}
use Rattle.verdict_terms.specs.Stages.{is_blank, is_word}
use Rattle.verdict_terms.specs.declared.kind.DocumentKind.{DocumentKind}
use Rattle.verdict_terms.specs.declared.kind.DocumentKind.TheVariants.{Explained, Front, Bounded, Reduced}
use Rattle.verdict_terms.specs.ExplainedStages.{are_two}

-- whether these words begin a bounded document
abbrev pub begin_bounded : List (List ℕ) → Bool
begin_bounded words =
    are_two (codes "bounded") (codes "knapsack") words || are_two (codes "bounded") (codes "strip") words

-- the job of a bounded document whose first line has these words
abbrev pub bounded_job : List (List ℕ) → SolvingJob
bounded_job words = cond (are_two (codes "bounded") (codes "knapsack") words) Knapsack Strip

-- of a document whose first line has these words
abbrev pub kind_of_words : List (List ℕ) → DocumentKind
kind_of_words words = cond (are_two (codes "explained") (codes "fit") words) Explained
    (cond (is_word (codes "front") words) Front
    (cond (begin_bounded words) Bounded Reduced))

-- of a document with this first line
abbrev pub kind_of_line : Line → DocumentKind
kind_of_line line = cond line.bad Reduced (kind_of_words line.words)

abbrev pub kind_of_lines : List (List ℕ) → DocumentKind
kind_of_lines [] = Reduced
kind_of_lines (line ∷ lines) =
    elim (is_blank (line_of line)) [ true ↦ kind_of_lines lines | false ↦ kind_of_line (line_of line) ]

-- of a text
abbrev pub document_kind : List ℕ → DocumentKind
document_kind text = kind_of_lines (text_lines text)

-- of lines as a lexer gives them
abbrev pub kind_told : List NumberedLine → DocumentKind
kind_told [] = Reduced
kind_told (l ∷ ls) = elim (is_blank l.line) [ true ↦ kind_told ls | false ↦ kind_of_line l.line ]

-- the lines that a lexer gives for the bytes of a text have its kind
abbrev pub KindsAreTold : Type 0
KindsAreTold = (text : List ℕ) → kind_told (lines_fed new_lexer text) ≡ document_kind text

-- a text that is verified as a reduced document is one by its first line
abbrev pub ReducedDocumentsAreOfTheirKind : Type 0
ReducedDocumentsAreOfTheirKind = (text : List ℕ) (claim : Claim) → reduced_verdict text ≡ Ok claim
    → document_kind text ≡ Reduced

-- and so it is with a bounded one
abbrev pub BoundedDocumentsAreOfTheirKind : Type 0
BoundedDocumentsAreOfTheirKind = (text : List ℕ) (claim : Claim) → bounded_verdict text ≡ Ok claim
    → document_kind text ≡ Bounded
