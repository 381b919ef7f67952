-- How lines are audited: what was read last, and how far a tree or the places of a point are read.
use Rattle.std.specs.Prelude.{ℕ, suc, ◌<◌, ◌≤◌, ◌≡◌, Bool, false, List, [], ◌∷◌, length, drop, Ok, Err, Result}
use Rattle.packing_terms.specs.declared.Exclusion.{Exclusion}
use Rattle.packing_terms.specs.Packing.{PlainInstance, written_container}
use Rattle.verdict_terms.specs.declared.front_answers.FrontReason.{FrontReason}
use Rattle.verdict_terms.specs.Lines.{PlainLine, FrontPart, Begun, Cornered, Placing, Pointed, FrontStage}
use Rattle.verdict_terms.specs.Lines.{front_lines_after, is_whole_front}
use Rattle.front_check.specs.declared.parts.Part.{Part}
use Rattle.front_check.specs.declared.parts.Part.TheVariants.{Begun as BegunPart, Corner as CornerPart}
use Rattle.front_check.specs.declared.parts.Part.TheVariants.{Point as PointPart}
use Rattle.front_check.specs.declared.parts.Stage.{Stage}
use Rattle.front_check.specs.declared.parts.Reading.{Reading}
use Rattle.front_check.specs.declared.parts.Reading.TheVariants.{Whole, Missing, Refused}
use Rattle.front_check.specs.declared.parts.Step.{Step}
use Rattle.front_check.specs.declared.parts.Step.TheVariants.{On, Missing as MissingStep, Refused as RefusedStep}

-- a corner that was read has its whole tree
abbrev pub plain_part : Part → FrontPart
plain_part BegunPart = Begun
plain_part (CornerPart width height) = Cornered width height []
plain_part (PointPart width height) = Pointed width height

abbrev pub plain_stage : Stage → FrontStage
plain_stage s = record { left = s.left; part = plain_part s.part }

-- a container that isn't wider or higher than that of the instance
abbrev pub IsInside : PlainInstance → ℕ → ℕ → Type 0
IsInside instance width height = (1 ≤ width) × (width ≤ written_container instance 0)
    × (height ≤ written_container instance 1)

-- the container of what was read last isn't
abbrev pub IsPartInside : PlainInstance → Part → Type 0
IsPartInside instance BegunPart = Unit {0}
IsPartInside instance (CornerPart width height) = IsInside instance width height
IsPartInside instance (PointPart width height) = IsInside instance width height

-- what the lines from this index on leave of a stage
abbrev pub left_from : PlainInstance → Bool → ℕ → FrontStage → List PlainLine → Result FrontStage (ℕ × FrontReason)
left_from instance complete index s lines = front_lines_after instance complete index s (drop index lines)

-- the lines from one index on, read from one stage on, leave what those from the next index on
-- leave of the other
pub record IsReadTo (instance : PlainInstance) (complete : Bool) (lines : List PlainLine) (start next : ℕ)
    (s t : FrontStage) : Type 0 where
  pub later : start ≤ next
  pub within : next ≤ length lines
  pub same : left_from instance complete start s lines ≡ left_from instance complete next t lines

-- the lines from this index on are all allowed, and more are missing
pub record IsReadShort (instance : PlainInstance) (complete : Bool) (lines : List PlainLine) (start : ℕ)
    (s : FrontStage) : Type 0 where
  pub last : FrontStage
  pub left : left_from instance complete start s lines ≡ Ok last
  pub short : is_whole_front complete last ≡ false

-- a corner whose nodes these are, and a point that has these places
abbrev pub growing : ℕ → ℕ → ℕ → List (List Exclusion) → FrontStage
growing left width height nodes = record { left = left; part = Cornered width height nodes }

abbrev pub placing : ℕ → ℕ → ℕ → List ℕ → FrontStage
placing left width height places = record { left = left; part = Placing width height places }

abbrev pub pointed : ℕ → ℕ → ℕ → FrontStage
pointed left width height = record { left = left; part = Pointed width height }

-- how far lines are read from one stage on, where they are whole with the other
abbrev pub IsReading : PlainInstance → Bool → List PlainLine → ℕ → FrontStage → FrontStage → Reading → Type 0
IsReading instance complete lines start s t (Whole next) = IsReadTo instance complete lines start next s t
IsReading instance complete lines start s t Missing = IsReadShort instance complete lines start s
IsReading instance complete lines start s t (Refused index reason) =
    left_from instance complete start s lines ≡ Err (index, reason)

-- how far the tree of a corner is read, of which nothing was read before
abbrev pub IsReadTree : PlainInstance → ℕ → ℕ → List PlainLine → ℕ → Reading → Type 0
IsReadTree instance width height lines start r =
    (complete : Bool) (left : ℕ) → IsReading instance complete lines start (growing left width height ([] ∷ []))
    (growing left width height []) r

-- how far the places of a point are read
abbrev pub IsReadPoint : PlainInstance → ℕ → ℕ → List PlainLine → ℕ → Reading → Type 0
IsReadPoint instance width height lines start r =
    (complete : Bool) (left : ℕ) → IsReading instance complete lines start (placing left width height [])
    (pointed left width height) r

-- this line stands at this index
abbrev pub StandsAt : List PlainLine → ℕ → PlainLine → Type 0
StandsAt lines index line = (drop index lines ≡ line ∷ drop (suc index) lines) × (suc index ≤ length lines)

-- what a line leaves of a stage, with all that belongs to it
abbrev pub IsStep : PlainInstance → Bool → List PlainLine → ℕ → Stage → Step → Type 0
IsStep instance complete lines index s (On stage next) =
    IsReadTo instance complete lines index next (plain_stage s) (plain_stage stage) × IsPartInside instance stage.part
    × (index < next)
IsStep instance complete lines index s MissingStep = IsReadShort instance complete lines index (plain_stage s)
IsStep instance complete lines index s (RefusedStep at reason) =
    left_from instance complete index (plain_stage s) lines ≡ Err (at, reason)
