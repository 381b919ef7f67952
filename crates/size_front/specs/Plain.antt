-- Fronts as the plain data of the definitions, and the walk under way.
use Rattle.std.specs.Prelude.{ℕ, suc, ◌<◌, ◌≤◌, ◌≡◌, Bool, false, List, [], map, Option, Some, None}
use Rattle.packing_terms.specs.Packing.{PlainInstance, written_container}
use Rattle.tree_terms.specs.Levels.{PlacedBy, PlainReached}
use Rattle.answer_terms.specs.Walks.{PlainCorner, PlainPoint, PlainFront, front_after, walk_on, width_run, size_answer}
use Rattle.answer_terms.specs.Walks.{front_walk}
use Rattle.size_front.specs.declared.front.Corner.{Corner}
use Rattle.size_front.specs.declared.front.Point.{Point}
use Rattle.size_front.specs.declared.front.Front.{Front}
use Rattle.size_front.specs.declared.rounds.WalkState.{WalkState}

abbrev pub plain_corner : Corner → PlainCorner
plain_corner c = record { width = c.width; height = c.height; tokens = c.tokens }

abbrev pub plain_point : Point → PlainPoint
plain_point p = record { width = p.width; height = p.height; places = p.places.items }

abbrev pub plain_front : Front → PlainFront
plain_front f = record {
  complete = f.complete;
  corners = map plain_corner f.corners.items;
  points = map plain_point f.points.items;
}

-- what a front is with what the rest of the walk finds
abbrev pub joined : Front → PlainFront → PlainFront
joined f rest = front_after (map plain_corner f.corners.items) (map plain_point f.points.items) rest

-- the rest of the walk from where it stands, of `rounds` rounds
abbrev pub rest_from : PlainInstance → ℕ → Bool → ℕ → WalkState → PlainFront
rest_from instance budget scales rounds s =
    walk_on (size_answer instance budget scales) (written_container instance 0) rounds s.height s.refuted
    s.tokens

-- A round: the walk ends with what is found then, or goes on from another place, which is lower.
abbrev pub IsRound : PlainInstance → ℕ → Bool → Front → WalkState → Front → Option WalkState → Type 0
IsRound instance budget scales old s new None =
    (more : ℕ) → joined old (rest_from instance budget scales (suc more) s) ≡ plain_front new
IsRound instance budget scales old s new (Some next) =
    (next.height < s.height) × (next.refuted ≤ written_container instance 0)
    × ((more : ℕ) → joined old (rest_from instance budget scales (suc more) s)
    ≡ joined new (rest_from instance budget scales more next))

-- The widths of a round that wasn't spent, run with no tokens at first: the tokens of where the walk
-- stands are kept beside, and belong to the refuted width where that stays.
pub record IsUnspentRun (instance : PlainInstance) (budget : ℕ) (scales : Bool) (s : WalkState) (r : PlainReached) :
    Type 0 where
  pub places : List ℕ
  pub placed : size_answer instance budget scales (written_container instance 0) s.height ≡ PlacedBy places
  pub run : r ≡ width_run (size_answer instance budget scales) (written_container instance 0) s.height
      s.refuted [] places
  pub unspent : r.spent ≡ false

-- A walk under way: what was found with the rest is the whole walk; where none goes on it is found.
abbrev pub IsUnderWay : PlainInstance → ℕ → Bool → Front → Option WalkState → Type 0
IsUnderWay instance budget scales f None = plain_front f ≡ front_walk instance budget scales
IsUnderWay instance budget scales f (Some s) =
    (s.height ≤ written_container instance 1) × (s.refuted ≤ written_container instance 0)
    × ((more : ℕ) × (s.height < more)
    × (joined f (rest_from instance budget scales more s) ≡ front_walk instance budget scales))

-- how many rounds are left at most
abbrev pub height_left : Option WalkState → ℕ
height_left None = 0
height_left (Some s) = suc s.height
