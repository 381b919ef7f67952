-- What the laws over fronts say.
use Rattle.std.specs.Prelude.{ℕ, ◌-◌, ◌≤◌, ◌≡◌, Bool, List, length}
use Rattle.packing_terms.specs.Packing.{PlainInstance, Fits, dims}
use Rattle.packing_terms.specs.Limits.{IsInternalInstance}
use Rattle.verdict_terms.specs.declared.front_answers.FrontVerdict.TheVariants.{Good}
use Rattle.verdict_terms.specs.Fronts.{with_container, IsClaimed}
use Rattle.verdict_terms.specs.Lines.{PlainLine}
use Rattle.verdict_terms.specs.Verdicts.{front_verdict, points_named}

-- what fits a container fits each that is at least as wide and as high
abbrev pub SizesAreMonotone : Type 0
SizesAreMonotone = (instance : PlainInstance) (a b x y : ℕ) → a ≤ x → b ≤ y → Fits (with_container instance a b)
    → Fits (with_container instance x y)

-- The points of lines that are good are as many as are announced, and they are what they claim to
-- be: the front, or its part up to the last of them.
pub record IsTrueFront (instance : PlainInstance) (complete : Bool) (points : ℕ) (lines : List PlainLine) : Type 0 where
  pub count : length (points_named lines) ≡ points
  pub claim : IsClaimed instance complete (points_named lines)

abbrev pub GoodLinesAreTrue : Type 0
GoodLinesAreTrue = (instance : PlainInstance) (complete : Bool) (points : ℕ) (lines : List PlainLine)
    → IsInternalInstance instance → dims instance ≡ 2
    → front_verdict instance complete points lines ≡ Good → IsTrueFront instance complete points lines
