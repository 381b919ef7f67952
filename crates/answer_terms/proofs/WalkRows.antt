-- Walks and verdicts of small fronts, computed from the definitions.
use Rattle.std.proofs.Common.{◌≡◌, ℕ, refl, List, [], ◌∷◌, true, false}
use Rattle.packing_terms.specs.Packing.{PlainInstance, PlainBox}
use Rattle.packing_terms.specs.Tokens.PlainToken.{Rules, TooLarge}
use Rattle.verdict_terms.specs.declared.check_answers.RefuseCode.TheVariants.{Range, After, Kind}
use Rattle.verdict_terms.specs.declared.front_answers.FrontReason.TheVariants.{Tree}
use Rattle.verdict_terms.specs.declared.front_answers.FrontVerdict.TheVariants.{Good, Short, Refused}
use Rattle.answer_terms.specs.Walks.{front_walk}
use Rattle.verdict_terms.specs.Lines.{PlainLine, CornerAt, PointAt, PlaceAt, TreeToken}
use Rattle.verdict_terms.specs.Verdicts.{front_verdict}
use Rattle.answer_terms.specs.WalkLines.{front_lines}

abbrev box : ℕ → ℕ → PlainBox
box a b = record { sides = a ∷ b ∷ []; value = 1 }

abbrev plate : PlainInstance
plate = record { container = 10 ∷ 10 ∷ []; kerfs = 0 ∷ 0 ∷ []; boxes = box 2 1 ∷ [] }

abbrev pair : PlainInstance
pair = record { container = 4 ∷ 4 ∷ []; kerfs = 0 ∷ 0 ∷ []; boxes = box 2 1 ∷ box 2 1 ∷ [] }

plate_front : front_walk plate 1000000 true
    ≡ record {
      complete = true;
      corners = record { width = 1; height = 10; tokens = TooLarge 1 1 ∷ [] } ∷ [];
      points = record { width = 2; height = 1; places = 0 ∷ 0 ∷ [] } ∷ [];
    }
plate_front = refl

pair_front : front_walk pair 1000000 true
    ≡ record {
      complete = true;
      corners = record { width = 1; height = 4; tokens = TooLarge 1 1 ∷ [] }
          ∷ record { width = 3; height = 1; tokens = Rules ∷ [] } ∷ [];
      points = record { width = 2; height = 2; places = 0 ∷ 0 ∷ 0 ∷ 1 ∷ [] }
          ∷ record { width = 4; height = 1; places = 0 ∷ 0 ∷ 2 ∷ 0 ∷ [] } ∷ [];
    }
pair_front = refl

-- the decision of the whole container has two branchings
pair_spent : front_walk pair 1 true ≡ record { complete = false; corners = []; points = [] }
pair_spent = refl

pair_good : front_verdict pair true 2 (front_lines (front_walk pair 1000000 true)) ≡ Good
pair_good = refl

-- a point behind a corner of another width
abbrev first_point : List PlainLine → List PlainLine
first_point rest = CornerAt 1 4 ∷ TreeToken (TooLarge 1 1) ∷ PointAt 2 2 ∷ PlaceAt (0 ∷ 0 ∷ [])
    ∷ PlaceAt (0 ∷ 1 ∷ []) ∷ rest

wrong_corner : front_verdict pair true 2 (first_point (CornerAt 2 1 ∷ TreeToken Rules ∷ PointAt 4 1 ∷ []))
    ≡ Refused 7 (Tree Range)
wrong_corner = refl

late_token : front_verdict pair true 2 (first_point (CornerAt 3 1 ∷ TreeToken Rules ∷ TreeToken Rules ∷ []))
    ≡ Refused 7 (Tree After)
late_token = refl

no_corner : front_verdict pair true 2 (first_point (PointAt 4 1 ∷ [])) ≡ Refused 5 (Tree Kind)
no_corner = refl

too_short : front_verdict pair true 2 (first_point []) ≡ Short
too_short = refl
