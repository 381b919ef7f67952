-- The lines of a front name its points.
use Rattle.std.proofs.Common.{◌≡◌, ℕ, refl, ap, ◌∙◌, Bool, true, false, cond, List, [], ◌∷◌, ◌++◌, map}
use Rattle.std.specs.Prelude.{◌==◌}
use Rattle.packing_terms.specs.Tokens.{PlainToken}
use Rattle.answer_terms.specs.Walks.{PlainCorner, PlainPoint, PlainFront, sizes}
use Rattle.verdict_terms.specs.Lines.{PlainLine, TreeToken}
use Rattle.verdict_terms.specs.Verdicts.{points_named}
use Rattle.answer_terms.specs.WalkLines.{corner_lines, place_lines, point_lines, step_lines, lines_of, front_lines}

tokens_name : (tokens : List PlainToken) (more : List PlainLine)
    → points_named (map TreeToken tokens ++ more) ≡ points_named more
tokens_name [] more = refl
tokens_name (t ∷ tokens) more = tokens_name tokens more

places_name : (places : List ℕ) (more : List PlainLine) → points_named (place_lines places ++ more) ≡ points_named more
places_name [] more = refl
places_name (x ∷ []) more = refl
places_name (x ∷ y ∷ rest) more = places_name rest more

corner_names : (c : PlainCorner) (more : List PlainLine) → points_named (corner_lines c ++ more) ≡ points_named more
corner_names c more = tokens_name c.tokens more

point_names : (p : PlainPoint) (more : List PlainLine) → points_named (point_lines p ++ more) ≡ (p.width, p.height)
    ∷ points_named more
point_names p more = ap (λ (l : List (ℕ × ℕ)). (p.width, p.height) ∷ l) (places_name p.places more)

steps_name : (corners : List PlainCorner) (points : List PlainPoint)
    → points_named (step_lines corners points) ≡ sizes points
steps_name [] [] = refl
steps_name (c ∷ corners) [] = corner_names c (step_lines corners []) ∙ steps_name corners []
steps_name [] (p ∷ points) = point_names p (step_lines [] points) ∙ ap (λ (l : List (ℕ × ℕ)). (p.width, p.height) ∷ l)
    (steps_name [] points)
steps_name (c ∷ corners) (p ∷ points) =
    corner_names c (point_lines p ++ step_lines corners points)
    ∙ (point_names p (step_lines corners points) ∙ ap (λ (l : List (ℕ × ℕ)). (p.width, p.height) ∷ l)
    (steps_name corners points))

pub front_names : (front : PlainFront) → points_named (front_lines front) ≡ sizes front.points
front_names front = go front.corners front.points
  where
    pick : (b : Bool) (corners : List PlainCorner) (p : PlainPoint) (points : List PlainPoint)
        → points_named (cond b (point_lines p ++ step_lines corners points) (step_lines corners (p ∷ points)))
        ≡ (p.width, p.height) ∷ sizes points
    pick true corners p points = point_names p (step_lines corners points)
        ∙ ap (λ (l : List (ℕ × ℕ)). (p.width, p.height) ∷ l) (steps_name corners points)
    pick false corners p points = steps_name corners (p ∷ points)

    go : (corners : List PlainCorner) (points : List PlainPoint) → points_named (lines_of corners points) ≡ sizes points
    go corners [] = steps_name corners []
    go corners (p ∷ points) = pick (p.width == 1) corners p points
