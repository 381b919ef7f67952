-- The verdict on the lines of a front.
use Rattle.std.specs.Prelude.{ℕ, Bool, cond, List, [], ◌∷◌, Result, Ok, Err}
use Rattle.packing_terms.specs.Packing.{PlainInstance}
use Rattle.verdict_terms.specs.declared.front_answers.FrontReason.{FrontReason}
use Rattle.verdict_terms.specs.declared.front_answers.FrontVerdict.{FrontVerdict}
use Rattle.verdict_terms.specs.declared.front_answers.FrontVerdict.TheVariants.{Good, Short, Refused}
use Rattle.verdict_terms.specs.Lines.{PlainLine, CornerAt, PointAt, PlaceAt, TreeToken, FrontStage, front_lines_after}
use Rattle.verdict_terms.specs.Lines.{is_whole_front, announced}

-- what is answered, by what the lines leave
abbrev pub verdict_by : Bool → Result FrontStage (ℕ × FrontReason) → FrontVerdict
verdict_by complete (Ok s) = cond (is_whole_front complete s) Good Short
verdict_by complete (Err refusal) = Refused refusal.0 refusal.1

-- the verdict on lines where `points` points are announced
abbrev pub front_verdict : PlainInstance → Bool → ℕ → List PlainLine → FrontVerdict
front_verdict instance complete points lines =
    verdict_by complete (front_lines_after instance complete 0 (announced points) lines)

-- the points that lines name
abbrev pub points_named : List PlainLine → List (ℕ × ℕ)
points_named [] = []
points_named (PointAt width height ∷ lines) = (width, height) ∷ points_named lines
points_named (CornerAt width height ∷ lines) = points_named lines
points_named (PlaceAt sides ∷ lines) = points_named lines
points_named (TreeToken token ∷ lines) = points_named lines
