-- The walk along the front: from the greatest height downwards, and to rising widths.
--
--     (r, h) refuted     decided: is there a point at all?            one round
--      |
-- |  ..  ?  ?  ?  (C, h)      the least width a at height h, then the least height b at width a;
-- the next round is at height b - 1
use Rattle.std.specs.Prelude.{ℕ, zero, suc, Bool, true, false, List, [], ◌∷◌, ◌++◌, map}
use Rattle.packing_terms.specs.Packing.{PlainInstance, written_container}
use Rattle.packing_terms.specs.Tokens.{PlainToken}
use Rattle.tree_terms.specs.Trees.{outcome, under_budget}
use Rattle.tree_terms.specs.ClassTree.{class_tree}
use Rattle.tree_terms.specs.Levels.{PlainLevel, PlacedBy, RefutedBy, SpentAt, PlainReached, bisect_levels, level_by}
use Rattle.verdict_terms.specs.Fronts.{with_container}

-- a container that is refuted by the tokens
pub record PlainCorner : Type 0 where
  pub width : ℕ
  pub height : ℕ
  pub tokens : List PlainToken

-- a container in which the places are a packing
pub record PlainPoint : Type 0 where
  pub width : ℕ
  pub height : ℕ
  pub places : List ℕ

-- how far a walk came: whether it found all points, the corners between them, and the points
pub record PlainFront : Type 0 where
  pub complete : Bool
  pub corners : List PlainCorner
  pub points : List PlainPoint

-- the widths and heights of points
abbrev pub sizes : List PlainPoint → List (ℕ × ℕ)
sizes points = map (λ p. (p.width, p.height)) points

-- a corner, where its width isn't 0: what isn't there needs no refutation
abbrev pub corner_unless_empty : ℕ → ℕ → List PlainToken → List PlainCorner
corner_unless_empty zero height tokens = []
corner_unless_empty (suc width) height tokens = record { width = suc width; height = height; tokens = tokens } ∷ []

-- where a decision was spent: the corner at which the walk stands closes what it found
abbrev pub spent_front : ℕ → ℕ → List PlainToken → PlainFront
spent_front refuted height tokens =
    record { complete = false; corners = corner_unless_empty refuted height tokens; points = [] }

-- where the container of the greatest width is refuted: all points are found
abbrev pub closed_front : ℕ → ℕ → List PlainToken → PlainFront
closed_front width height tokens =
    record { complete = true; corners = record { width = width; height = height; tokens = tokens } ∷ []; points = [] }

-- where no height is left: all points are found, and nothing is to be refuted
abbrev pub whole_front : PlainFront
whole_front = record { complete = true; corners = []; points = [] }

-- corners and points that were found before
abbrev pub front_after : List PlainCorner → List PlainPoint → PlainFront → PlainFront
front_after corners points front =
    record { complete = front.complete; corners = corners ++ front.corners; points = points ++ front.points }

-- the first two levels of a run
abbrev pub levels_from : ℕ → List PlainToken → ℕ → List ℕ → PlainReached
levels_from refuted tokens placed numbers =
    record { refuted = refuted; tokens = tokens; placed = placed; numbers = numbers; spent = false }

-- The rounds of a walk, over what is answered at each width and height. A walk stands at a height
-- and at a width that is refuted there, or 0.
module _ (answer : ℕ → ℕ → PlainLevel) (most : ℕ) where
  -- the widths at a height, from one that is refuted and the greatest one
  abbrev pub width_run : ℕ → ℕ → List PlainToken → List ℕ → PlainReached
  width_run height refuted tokens places =
      bisect_levels (λ width. answer width height) (levels_from refuted tokens most places)

  -- the heights at a width, from 0 and one that is placed
  abbrev pub height_run : ℕ → ℕ → List ℕ → PlainReached
  height_run width height places = bisect_levels (λ h. answer width h) (levels_from 0 [] height places)

  -- behind a point: where a height is left below it the walk goes on
  abbrev pub rest_by : (ℕ → ℕ → List PlainToken → PlainFront) → ℕ → ℕ → List PlainToken → PlainFront
  rest_by walk zero width tokens = whole_front
  rest_by walk (suc height) width tokens = walk (suc height) width tokens

  -- with the point that a round found, and the corner before it
  abbrev pub round_found : (ℕ → ℕ → List PlainToken → PlainFront) → ℕ → PlainReached → PlainReached → PlainFront
  round_found walk height widths heights =
      front_after (corner_unless_empty widths.refuted height widths.tokens)
      (record { width = widths.placed; height = heights.placed; places = heights.numbers } ∷ [])
      (rest_by walk heights.refuted widths.placed heights.tokens)

  abbrev pub round_by_heights : (ℕ → ℕ → List PlainToken → PlainFront) → ℕ → PlainReached → PlainReached → PlainFront
      → Bool → PlainFront
  round_by_heights walk height widths heights spent true = spent
  round_by_heights walk height widths heights spent false = round_found walk height widths heights

  abbrev pub round_by_widths : (ℕ → ℕ → List PlainToken → PlainFront) → ℕ → PlainReached → PlainFront → Bool
      → PlainFront
  round_by_widths walk height widths spent true = spent
  round_by_widths walk height widths spent false =
      let heights = height_run widths.placed height widths.numbers in
      round_by_heights walk height widths heights spent heights.spent

  -- a round, by what is answered at the greatest width
  abbrev pub round_by : (ℕ → ℕ → List PlainToken → PlainFront) → ℕ → ℕ → List PlainToken → PlainLevel → PlainFront
  round_by walk height refuted tokens (RefutedBy us) = closed_front most height us
  round_by walk height refuted tokens SpentAt = spent_front refuted height tokens
  round_by walk height refuted tokens (PlacedBy places) =
      let widths = width_run height refuted tokens places in
      round_by_widths walk height widths (spent_front refuted height tokens) widths.spent

  -- a walk of at most a given number of rounds
  abbrev pub walk_on : ℕ → ℕ → ℕ → List PlainToken → PlainFront
  walk_on zero height refuted tokens = whole_front
  walk_on (suc more) height refuted tokens = round_by (walk_on more) height refuted tokens (answer most height)

-- the walk from the greatest height on; each round ends lower, so one more than the height is
-- enough
abbrev pub walk : (ℕ → ℕ → PlainLevel) → ℕ → ℕ → PlainFront
walk answer most height = walk_on answer most (suc height) height 0 []

-- what is answered for a container of these written sides, under a budget
abbrev pub size_answer : PlainInstance → ℕ → Bool → ℕ → ℕ → PlainLevel
size_answer instance budget scales width height =
    level_by (under_budget budget (outcome (class_tree (with_container instance width height) [] scales)))

-- the walk of an instance
abbrev pub front_walk : PlainInstance → ℕ → Bool → PlainFront
front_walk instance budget scales =
    walk (size_answer instance budget scales) (written_container instance 0) (written_container instance 1)
