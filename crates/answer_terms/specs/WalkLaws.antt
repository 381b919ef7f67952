-- What the laws over walks say.
use Rattle.std.specs.Prelude.{ℕ, ◌+◌, ◌-◌, ◌*◌, ◌/◌, ◌^◌, ◌≤◌, ◌≡◌, ◌↔◌, Bool, true, false, length}
use Rattle.packing_terms.specs.Packing.{PlainInstance, dims, box_count}
use Rattle.packing_terms.specs.Limits.{IsInternalInstance}
use Rattle.verdict_terms.specs.declared.front_answers.FrontVerdict.TheVariants.{Good}
use Rattle.verdict_terms.specs.Fronts.{IsClaimed}
use Rattle.answer_terms.specs.Walks.{PlainFront, sizes, front_walk}
use Rattle.answer_terms.specs.Asked.{HasContainerPastBudget}
use Rattle.verdict_terms.specs.Verdicts.{front_verdict, points_named}
use Rattle.answer_terms.specs.WalkLines.{front_lines}

-- the lines of a walk are good
abbrev pub WalksAreGood : Type 0
WalksAreGood = (instance : PlainInstance) (budget : ℕ) (scales : Bool) → IsInternalInstance instance → dims instance ≡ 2
    → front_verdict instance (front_walk instance budget scales).complete
    (length (front_walk instance budget scales).points)
    (front_lines (front_walk instance budget scales)) ≡ Good

-- the points of a walk are the front, or its part up to the last of them where a decision was spent
abbrev pub WalksAreFronts : Type 0
WalksAreFronts = (instance : PlainInstance) (budget : ℕ) (scales : Bool) → IsInternalInstance instance
    → dims instance ≡ 2
    → IsClaimed instance (front_walk instance budget scales).complete (sizes (front_walk instance budget scales).points)

-- the lines of a front name its points
abbrev pub FrontsAreNamed : Type 0
FrontsAreNamed = (front : PlainFront) → points_named (front_lines front) ≡ sizes front.points

-- A walk isn't complete exactly where it decides a container that has more branchings than the
-- budget; so a budget of 3 to the number of pairs in both dimensions, less 1, is always enough.
pub record WalksAreSpentExactly : Type 0 where
  pub spent : (instance : PlainInstance) (budget : ℕ) (scales : Bool)
      → ((front_walk instance budget scales).complete ≡ false) ↔ HasContainerPastBudget instance budget scales
  pub enough : (instance : PlainInstance) (budget : ℕ) (scales : Bool) → IsInternalInstance instance → dims instance ≡ 2
      → 3 ^ (dims instance * box_count instance * (box_count instance - 1) / 2) ≤ budget + 1
      → (front_walk instance budget scales).complete ≡ true
