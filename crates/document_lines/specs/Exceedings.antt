-- The one token of a document that claims `none`.
use Rattle.std.specs.Prelude.{ℕ, ◌≡◌, Bool, true, false, List, Some, Result, Ok, Err}
use Rattle.packing_terms.specs.Packing.{PlainInstance, dims}
use Rattle.text_terms.specs.declared.claim.Claim.{Claim}
use Rattle.verdict_terms.specs.declared.reason.Reason.{Reason}
use Rattle.verdict_terms.specs.Stages.{Stage, exceeding_line}
use Rattle.verdict_terms.specs.Stages.Stage.{Exceeding, Ending}

-- before the token and behind it
abbrev pub exceeding_stage : PlainInstance → Claim → ℕ → Bool → Stage
exceeding_stage instance claim dim_count true = Ending claim (Some (dims instance))
exceeding_stage instance claim dim_count false = Exceeding instance claim dim_count

-- a line where the token is wanted: it was taken, or why it is refused
abbrev pub TakesExceeding : PlainInstance → ℕ → List (List ℕ) → Result (Unit {0}) Reason → Type 0
TakesExceeding instance dim_count words (Ok u) =
    (claim : Claim) → exceeding_line instance claim dim_count words ≡ Ok (Ending claim (Some (dims instance)))
TakesExceeding instance dim_count words (Err reason) =
    (claim : Claim) → exceeding_line instance claim dim_count words ≡ Err reason
