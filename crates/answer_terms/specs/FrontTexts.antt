-- The document of a front as it is written: `front`, the instance, the result line, the lines of the
-- front, and `end`.
use Rattle.std.specs.Prelude.{ℕ, ◌==◌, cond, Bool, true, false, List, [], ◌∷◌, ◌++◌, map, length, codes}
use Rattle.std.specs.Fmt.{decimal}
use Rattle.packing_terms.specs.Packing.{PlainInstance}
use Rattle.text_terms.specs.Spelling.{instance_words, lines_text}
use Rattle.text_terms.specs.TokenLines.{token_words}
use Rattle.answer_terms.specs.Walks.{PlainFront, front_walk}
use Rattle.verdict_terms.specs.Lines.{PlainLine, CornerAt, PointAt, PlaceAt, TreeToken}
use Rattle.answer_terms.specs.WalkLines.{front_lines}

-- the words of a line
abbrev pub line_words : PlainLine → List (List ℕ)
line_words (CornerAt width height) = codes "corner" ∷ decimal width ∷ decimal height ∷ []
line_words (PointAt width height) = codes "point" ∷ decimal width ∷ decimal height ∷ []
line_words (PlaceAt sides) = codes "place" ∷ map decimal sides
line_words (TreeToken token) = token_words token

-- all points, or those found before a decision was spent
abbrev pub front_word : Bool → List ℕ
front_word true = codes "front"
front_word false = codes "partial"

abbrev pub front_result : Bool → ℕ → List (List ℕ)
front_result complete points = front_word complete ∷ decimal points ∷ []

-- the words of each line of the document
abbrev pub front_document : PlainInstance → PlainFront → List (List (List ℕ))
front_document instance front =
    (codes "front" ∷ []) ∷ (instance_words instance
    ++ (codes "result" ∷ front_result front.complete (length front.points))
    ∷ (map line_words (front_lines front) ++ (codes "end" ∷ []) ∷ []))

abbrev pub front_text : PlainInstance → PlainFront → List ℕ
front_text instance front = lines_text (front_document instance front)

-- 0 where all points were found and there is one, 1 where there is none, 3 where a decision was
-- spent
abbrev pub front_status : Bool → ℕ → ℕ
front_status true points = cond (points == 0) 1 0
front_status false points = 3

-- the status and the document of the job, under a budget
pub record FrontAnswer : Type 0 where
  pub status : ℕ
  pub text : List ℕ

abbrev pub front_answer_of : PlainInstance → PlainFront → FrontAnswer
front_answer_of instance front =
    record { status = front_status front.complete (length front.points); text = front_text instance front }

abbrev pub front_answer : ℕ → Bool → PlainInstance → FrontAnswer
front_answer budget scales instance = front_answer_of instance (front_walk instance budget scales)
