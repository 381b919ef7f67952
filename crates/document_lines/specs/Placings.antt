-- The place lines of a document.
use Rattle.std.specs.Prelude.{ℕ, ◌≡◌, Bool, true, false, List, ◌++◌, Result, Ok, Err}
use Rattle.packing_terms.specs.Packing.{PlainInstance}
use Rattle.text_terms.specs.declared.claim.Claim.{Claim}
use Rattle.verdict_terms.specs.declared.heading.Heading.{Heading}
use Rattle.verdict_terms.specs.Numbers.{coordinates}
use Rattle.verdict_terms.specs.Stages.{Stage, placed, refutation_goal}
use Rattle.verdict_terms.specs.Stages.Stage.{Placing}
use Rattle.document_lines.specs.declared.judge.LineStop.{LineStop}
use Rattle.document_lines.specs.declared.judge.LineStop.TheVariants.{Refused, NoMemory}

-- coordinates put behind the others, or the reason of the refusal, which leaves them as they were
abbrev pub TakesCoordinates : List ℕ → List ℕ → List ℕ → Result (Unit {0}) LineStop → Type 0
TakesCoordinates places numbers new (Ok u) = (coordinates numbers ≡ Ok numbers) × (new ≡ places ++ numbers)
TakesCoordinates places numbers new (Err (Refused reason)) = (coordinates numbers ≡ Err reason) × (new ≡ places)
TakesCoordinates places numbers new (Err NoMemory) = new ≡ places

-- the places so far, in a container that may have another last side, and behind them all
abbrev pub place_stage : Heading → PlainInstance → PlainInstance → Claim → List ℕ → Bool → Stage
place_stage heading instance held claim places true = placed heading claim (refutation_goal heading instance claim)
place_stage heading instance held claim places false =
    Placing heading held claim (refutation_goal heading instance claim) places
