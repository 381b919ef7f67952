-- A pass over a document, phase by phase: each phase goes on from where the last one left the
-- source, behind any bytes that were taken before.
use Rattle.std.specs.Prelude.{ℕ, ◌+◌, ◌≤◌, List, Option, Some, None, Result, Ok, Err}
use Rattle.pack_streams.specs.Faults.{FaultCount, Stays}
use Rattle.text_terms.specs.declared.claim.Claim.{Claim}
use Rattle.verdict_terms.specs.declared.reason.Reason.TheVariants.{TooShort}
use Rattle.verdict_terms.specs.declared.heading.Heading.{Heading}
use Rattle.verdict_terms.specs.Stages.{Stage, claimed}
use Rattle.document_lines.specs.declared.head.Claimed.{Claimed}
use Rattle.document_check.specs.declared.check.CheckEnd.{CheckEnd}
use Rattle.document_check.specs.declared.check.CheckEnd.TheVariants.{Verified, Refused}
use Rattle.document_check.specs.declared.position.Position.{Position}
use Rattle.document_check.specs.Checked.{max_check_bytes, IsRestChecked}
use Rattle.document_lines.specs.Reading.{IsTaking}

-- no more lines ended than bytes were taken, and not too many of them
abbrev pub IsPosition : Position → Type 0
IsPosition at = (at.lexer.number ≤ at.count) × (at.count ≤ max_check_bytes)

-- what the end of the text comes to after n lines
abbrev pub end_of : Option Claim → ℕ → CheckEnd
end_of (Some claim) n = Verified claim
end_of None n = Refused (n + 1) TooShort

-- what the rest of a document comes to behind the bytes that were taken
abbrev pub IsCheckedFrom : Option (List ℕ) → Option (List ℕ) → FaultCount → FaultCount → Position → Stage → CheckEnd
    → Type 0
IsCheckedFrom old left before now at stage result =
    IsRestChecked old left before now at.lexer stage at.count result

-- lines were taken without a fault, and the document goes on at another stage
abbrev pub IsReadOn : Option (List ℕ) → Option (List ℕ) → FaultCount → FaultCount → Position → Stage → Position → Stage
    → Type 0
IsReadOn old left before now at stage next behind =
    (heading : Heading) (front : List ℕ) (first : Option (List ℕ))
    → IsTaking heading front first old at.lexer stage at.count
    → Stays before now × IsTaking heading front first left next.lexer behind next.count

abbrev pub Goes : Option (List ℕ) → Option (List ℕ) → FaultCount → FaultCount → Position → Stage → Position → Stage
    → Option CheckEnd → Type 0
Goes old left before now at stage next behind (Some result) = IsCheckedFrom old left before now at stage result
Goes old left before now at stage next behind None = IsReadOn old left before now at stage next behind

-- the same up to the result line, behind which the document goes on with its claim
abbrev pub GoesBehind : Stage → Option (List ℕ) → Option (List ℕ) → FaultCount → FaultCount → Position → Position
    → Result Claimed CheckEnd → Type 0
GoesBehind stage old left before now at next (Ok c) =
    IsReadOn old left before now at stage next (claimed c.heading c.instance c.claim)
GoesBehind stage old left before now at next (Err result) =
    IsCheckedFrom old left before now at stage result
