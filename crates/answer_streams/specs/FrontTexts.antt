-- The lines of a front as text, and which of them belong to an index.
use Rattle.std.specs.Prelude.{ℕ, zero, suc, ◌≡◌, ◌*◌, Bool, List, [], ◌∷◌, ◌++◌, map, length, codes}
use Rattle.std.specs.List.{AllByRecursion}
use Rattle.std.specs.Fmt.{decimal}
use Rattle.text_terms.specs.Spelling.{lines_text}
use Rattle.verdict_terms.specs.Lines.{PlainLine}
use Rattle.answer_terms.specs.Walks.{PlainCorner, PlainPoint}
use Rattle.answer_terms.specs.WalkLines.{corner_lines, point_lines}
use Rattle.answer_terms.specs.FrontTexts.{line_words, front_word}
use Rattle.size_front.specs.declared.front.Point.{Point}

-- a line feed after each line
abbrev pub text_of : List PlainLine → List ℕ
text_of lines = lines_text (map line_words lines)

-- a word with its space, and two numbers
abbrev pub pair_text : List ℕ → ℕ → ℕ → List ℕ
pair_text word first second = word ++ (decimal first ++ (32 ∷ [] ++ (decimal second ++ 10 ∷ [])))

-- what stands on the result line before the number of points
abbrev pub result_key : Bool → List ℕ
result_key complete = codes "result " ++ (front_word complete ++ 32 ∷ [])

-- the lines of the corner and of the point of an index
abbrev pub corner_at : List PlainCorner → ℕ → List PlainLine
corner_at [] k = []
corner_at (c ∷ corners) zero = corner_lines c
corner_at (c ∷ corners) (suc k) = corner_at corners k

abbrev pub point_at : List PlainPoint → ℕ → List PlainLine
point_at [] k = []
point_at (p ∷ points) zero = point_lines p
point_at (p ∷ points) (suc k) = point_at points k

-- each point has a place of two coordinates for each of `boxes` boxes
abbrev pub AreAllPlaced : ℕ → List Point → Type 0
AreAllPlaced boxes points = AllByRecursion (λ p. length p.places.items ≡ 2 * boxes) points
