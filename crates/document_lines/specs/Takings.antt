-- The `take` lines of a document.
use Rattle.std.specs.Prelude.{ℕ, ◌*◌, ◌≡◌, Bool, true, false, List, length, Option, Result, Ok, Err}
use Rattle.packing_terms.specs.Packing.{PlainInstance, dims}
use Rattle.packing_terms.specs.Goals.{IsBoxSet}
use Rattle.text_terms.specs.declared.claim.Claim.{Claim}
use Rattle.verdict_terms.specs.declared.heading.Heading.{Heading}
use Rattle.verdict_terms.specs.declared.reason.Reason.{Reason}
use Rattle.verdict_terms.specs.Stages.{Stage, value_stage, take_box_line}
use Rattle.verdict_terms.specs.Stages.Stage.{Taking}
use Rattle.document_lines.specs.declared.judge.LineStop.{LineStop}
use Rattle.document_lines.specs.declared.judge.LineStop.TheVariants.{Refused, NoMemory}

-- the boxes so far, and behind `proof`
abbrev pub take_stage : Heading → PlainInstance → Claim → ℕ → List ℕ → List ℕ → Bool → Stage
take_stage heading instance claim value taken places true = value_stage heading instance claim
take_stage heading instance claim value taken places false = Taking heading instance claim value taken places

-- what is kept: the boxes are a set, with a coordinate in each dimension
pub record AreBoxesTaken (instance : PlainInstance) (taken places : List ℕ) : Type 0 where
  pub set : IsBoxSet instance taken
  pub enough : length places ≡ length taken * dims instance

-- a box that was taken, or why it is refused
abbrev pub TakesBox : PlainInstance → List ℕ → List ℕ → List ℕ → List ℕ → List ℕ → Result (Unit {0}) LineStop → Type 0
TakesBox instance taken places numbers more_taken more_places (Ok u) =
    (heading : Heading) (claim : Claim) (value : ℕ) → take_box_line heading instance claim value taken places numbers
    ≡ Ok (Taking heading instance claim value more_taken more_places)
TakesBox instance taken places numbers more_taken more_places (Err (Refused reason)) =
    (heading : Heading) (claim : Claim) (value : ℕ)
    → take_box_line heading instance claim value taken places numbers ≡ Err reason
TakesBox instance taken places numbers more_taken more_places (Err NoMemory) = Unit {0}

-- why the boxes are refused, if they are, unless memory was refused
abbrev pub IsReasonOf : Option Reason → Result (Option Reason) LineStop → Type 0
IsReasonOf reason (Ok found) = found ≡ reason
IsReasonOf reason (Err (Refused other)) = ⊥
IsReasonOf reason (Err NoMemory) = Unit {0}
