-- The lines that a walk has.
use Rattle.std.specs.Prelude.{ℕ, ◌==◌, cond, List, [], ◌∷◌, ◌++◌, map}
use Rattle.verdict_terms.specs.Lines.{PlainLine, CornerAt, PointAt, PlaceAt, TreeToken}
use Rattle.answer_terms.specs.Walks.{PlainCorner, PlainPoint, PlainFront}

-- a corner with its tree
abbrev pub corner_lines : PlainCorner → List PlainLine
corner_lines c = CornerAt c.width c.height ∷ map TreeToken c.tokens

-- places, two coordinates a line
abbrev pub place_lines : List ℕ → List PlainLine
place_lines [] = []
place_lines (x ∷ []) = PlaceAt (x ∷ []) ∷ []
place_lines (x ∷ y ∷ rest) = PlaceAt (x ∷ y ∷ []) ∷ place_lines rest

-- a point with its places
abbrev pub point_lines : PlainPoint → List PlainLine
point_lines p = PointAt p.width p.height ∷ place_lines p.places

-- each point behind its corner, and the closing corner last
abbrev pub step_lines : List PlainCorner → List PlainPoint → List PlainLine
step_lines [] [] = []
step_lines (c ∷ corners) [] = corner_lines c ++ step_lines corners []
step_lines [] (p ∷ points) = point_lines p ++ step_lines [] points
step_lines (c ∷ corners) (p ∷ points) = corner_lines c ++ (point_lines p ++ step_lines corners points)

-- the lines of a front: a first point of width 1 has no corner before it
abbrev pub lines_of : List PlainCorner → List PlainPoint → List PlainLine
lines_of corners [] = step_lines corners []
lines_of corners (p ∷ points) =
    cond (p.width == 1) (point_lines p ++ step_lines corners points) (step_lines corners (p ∷ points))

abbrev pub front_lines : PlainFront → List PlainLine
front_lines front = lines_of front.corners front.points
