-- The points that a document of a front names: by the words of its lines `point A B` alone, wherever
-- in the document these stand, in their order.
use Rattle.std.specs.Prelude.{ℕ, cond, List, [], ◌∷◌, ◌++◌, Option, Some, codes}
use Rattle.text_terms.specs.Lines.{text_lines, content, words_of, number_of, same_bytes}

-- the point of two numbers
abbrev pub point_by : Option ℕ → Option ℕ → List (ℕ × ℕ)
point_by (Some width) (Some height) = (width, height) ∷ []
point_by _ _ = []

-- the point that words name: none, unless they are `point` and two numbers
abbrev pub point_of_words : List (List ℕ) → List (ℕ × ℕ)
point_of_words (key ∷ a ∷ b ∷ []) = cond (same_bytes key (codes "point")) (point_by (number_of a) (number_of b)) []
point_of_words _ = []

-- the points that lines name
abbrev pub points_of_lines : List (List ℕ) → List (ℕ × ℕ)
points_of_lines [] = []
points_of_lines (line ∷ lines) = point_of_words (words_of (content line)) ++ points_of_lines lines

-- the points that a text names
abbrev pub points_of_text : List ℕ → List (ℕ × ℕ)
points_of_text text = points_of_lines (text_lines text)
