-- The lines between the result line and `end` of a document of a front, and whether each is
-- allowed where it stands.
--
--     corner 3 1      a container that is refuted, by the tree behind it
--     x
--     point 4 1       a container in which the boxes fit, by the places behind it
--     place 0 0
--     place 2 0
use Rattle.std.specs.Prelude.{ℕ, zero, suc, ◌-◌, ◌*◌, ◌==◌, ◌&&◌, not, cond, nat_le, nat_lt, Bool, true, false, List}
use Rattle.std.specs.Prelude.{[], ◌∷◌, ◌++◌, length, Result, Ok, Err}
use Rattle.packing_terms.specs.declared.Exclusion.{Exclusion}
use Rattle.packing_terms.specs.Packing.{PlainInstance, written_container, box_count}
use Rattle.packing_terms.specs.Results.{◌>>=◌}
use Rattle.packing_terms.specs.Tokens.{PlainToken}
use Rattle.verdict_terms.specs.Checking.{inner_after}
use Rattle.verdict_terms.specs.Placing.{place_verdict}
use Rattle.verdict_terms.specs.declared.check_answers.PlaceVerdict.{PlaceVerdict}
use Rattle.verdict_terms.specs.declared.check_answers.PlaceVerdict.TheVariants.{Good, Outside, Overlap}
use Rattle.verdict_terms.specs.declared.check_answers.RefuseCode.{RefuseCode}
use Rattle.verdict_terms.specs.declared.check_answers.RefuseCode.TheVariants.{Kind, Range}
use Rattle.verdict_terms.specs.declared.front_answers.FrontReason.{FrontReason}
use Rattle.verdict_terms.specs.declared.front_answers.FrontReason.TheVariants.{Tree, Places}
use Rattle.verdict_terms.specs.Fronts.{with_container}

pub data PlainLine : Type 0 where
  CornerAt : (width height : ℕ) → PlainLine
  PointAt : (width height : ℕ) → PlainLine
  PlaceAt : (sides : List ℕ) → PlainLine
  TreeToken : (token : PlainToken) → PlainLine

-- What was read last.
--   Begun            nothing
--   Cornered         a corner, and so much of its tree that these nodes are open
--   Placing          a point, and some of its places
--   Pointed          a point with all its places
pub data FrontPart : Type 0 where
  Begun : FrontPart
  Cornered : (width height : ℕ) (nodes : List (List Exclusion)) → FrontPart
  Placing : (width height : ℕ) (places : List ℕ) → FrontPart
  Pointed : (width height : ℕ) → FrontPart

-- what was read last, and how many of the announced points aren't begun yet
pub record FrontStage : Type 0 where
  pub left : ℕ
  pub part : FrontPart

abbrev pub form : FrontReason
form = Tree Kind

abbrev pub range : FrontReason
range = Tree Range

-- refused with the reason unless the test holds
abbrev pub wanted : {A : Type 0} → Bool → FrontReason → A → Result A FrontReason
wanted true reason x = Ok x
wanted false reason x = Err reason

-- the width of the closing corner, behind a point of this width: the greatest one, where all points
-- are there
abbrev pub closing_width : ℕ → Bool → ℕ → ℕ
closing_width most true width = most
closing_width most false width = width

-- whether nothing is missing behind what was read last
abbrev pub is_whole_part : Bool → FrontPart → Bool
is_whole_part c Begun = not c
is_whole_part c (Cornered width height []) = true
is_whole_part c (Cornered width height (n ∷ nodes)) = false
is_whole_part c (Placing width height places) = false
is_whole_part c (Pointed width height) = height == 1

-- behind a line `corner`: the root of its tree is open
abbrev pub cornered : ℕ → ℕ → ℕ → FrontStage
cornered left width height = record { left = left; part = Cornered width height ([] ∷ []) }

-- the closing corner: of this width and height
abbrev pub closing_corner : ℕ → ℕ → ℕ → ℕ → Result FrontStage FrontReason
closing_corner w h width height = wanted ((height == h) && (width == w)) range (cornered 0 width height)

-- the places of a point that are all there, by what they are found to be
abbrev pub tested : ℕ → ℕ → ℕ → PlaceVerdict → Result FrontStage FrontReason
tested left width height Good = Ok (record { left = left; part = Pointed width height })
tested left width height (Outside v i) = Err (Places (Outside v i))
tested left width height (Overlap u v) = Err (Places (Overlap u v))

-- the tree of a corner with a token more
abbrev pub grown : ℕ → ℕ → ℕ → Result (List (List Exclusion)) RefuseCode → Result FrontStage FrontReason
grown left width height (Ok nodes) = Ok (record { left = left; part = Cornered width height nodes })
grown left width height (Err code) = Err (Tree code)

-- a refusal is reported with the index of its line
abbrev pub at_line : {A : Type 0} → ℕ → Result A FrontReason → Result A (ℕ × FrontReason)
at_line index (Ok x) = Ok x
at_line index (Err reason) = Err (index, reason)

module _ (instance : PlainInstance) (complete : Bool) where
  -- a corner before a point: at this height, of at least this width, and narrower than the instance
  abbrev pub corner_before : ℕ → ℕ → ℕ → ℕ → ℕ → Result FrontStage FrontReason
  corner_before left least h width height =
      wanted ((height == h) && (nat_le least width && nat_lt width (written_container instance 0))) range
      (cornered left width height)

  -- the corner before the first point; where no point is announced, that of the whole container
  abbrev pub first_corner : Bool → ℕ → ℕ → ℕ → Result FrontStage FrontReason
  first_corner c (suc left) width height = corner_before (suc left) 1 (written_container instance 1) width height
  first_corner true zero width height =
      closing_corner (written_container instance 0) (written_container instance 1) width height
  first_corner false zero width height = Err form

  -- the corner behind a point, before the next one or closing
  abbrev pub next_corner : ℕ → ℕ → ℕ → ℕ → ℕ → Result FrontStage FrontReason
  next_corner (suc left) a b width height = corner_before (suc left) a (b - 1) width height
  next_corner zero a b width height =
      cond (b == 1) (Err form) (closing_corner (closing_width (written_container instance 0) complete a) (b - 1)
      width height)

  abbrev pub corner_line : ℕ → FrontPart → ℕ → ℕ → Result FrontStage FrontReason
  corner_line left Begun width height = first_corner complete left width height
  corner_line left (Pointed a b) width height = next_corner left a b width height
  corner_line left _ width height = Err form

  -- a point of this width, at most so high
  abbrev pub point_of : ℕ → ℕ → ℕ → ℕ → ℕ → Result FrontStage FrontReason
  point_of left w h width height =
      wanted ((width == w) && (nat_le width (written_container instance 0)
      && (nat_le 1 height && nat_le height h))) range
      (record { left = left; part = Placing width height [] })

  -- a first point without a corner has width 1, each other one is one wider than its corner
  abbrev pub point_line : ℕ → FrontPart → ℕ → ℕ → Result FrontStage FrontReason
  point_line (suc left) Begun width height = point_of left 1 (written_container instance 1) width height
  point_line (suc left) (Cornered w h []) width height = point_of left (suc w) h width height
  point_line left _ width height = Err form

  -- places, tested where they are all there
  abbrev pub placed : ℕ → ℕ → ℕ → List ℕ → Result FrontStage FrontReason
  placed left width height places =
      cond (length places == 2 * box_count instance)
      (tested left width height (place_verdict (with_container instance width height) places))
      (Ok (record { left = left; part = Placing width height places }))

  abbrev pub place_line : ℕ → FrontPart → List ℕ → Result FrontStage FrontReason
  place_line left (Placing width height places) xs =
      cond (length xs == 2) (placed left width height (places ++ xs)) (Err form)
  place_line left _ xs = Err form

  -- a token of the tree of a corner
  abbrev pub token_line : ℕ → FrontPart → PlainToken → Result FrontStage FrontReason
  token_line left (Cornered width height nodes) t =
      grown left width height (inner_after (with_container instance width height) nodes t)
  token_line left _ t = Err form

  -- a line more, or why it isn't allowed
  abbrev pub front_line : FrontStage → PlainLine → Result FrontStage FrontReason
  front_line s (CornerAt width height) = corner_line s.left s.part width height
  front_line s (PointAt width height) = point_line s.left s.part width height
  front_line s (PlaceAt sides) = place_line s.left s.part sides
  front_line s (TreeToken token) = token_line s.left s.part token

  -- the lines one by one, from the one of this index on
  abbrev pub front_lines_after : ℕ → FrontStage → List PlainLine → Result FrontStage (ℕ × FrontReason)
  front_lines_after index s [] = Ok s
  front_lines_after index s (line ∷ lines) =
      at_line index (front_line s line) >>= λ next. front_lines_after (suc index) next lines

-- whether nothing is missing
abbrev pub is_whole_front : Bool → FrontStage → Bool
is_whole_front complete s = (s.left == 0) && is_whole_part complete s.part

-- nothing is read, and `points` points are announced
abbrev pub announced : ℕ → FrontStage
announced points = record { left = points; part = Begun }
