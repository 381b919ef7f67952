-- The lines of a document up to its result line.
use Rattle.std.specs.Prelude.{◌≡◌, Bool, true, false, Option, Some, None, Result, Ok, Err}
use Rattle.text_terms.specs.Lines.{Line}
use Rattle.text_terms.specs.Texts.{Parts, no_parts, add_line}
use Rattle.instance_text.specs.declared.reader.ReadTextError.{ReadTextError}
use Rattle.text_terms.specs.declared.claim.SolvingJob.{SolvingJob}
use Rattle.verdict_terms.specs.declared.heading.Heading.{Heading}
use Rattle.verdict_terms.specs.Stages.{Stage, claimed, text_fault}
use Rattle.verdict_terms.specs.Stages.Stage.{Beginning, Reading}
use Rattle.instance_text.specs.Readers.{held_parts, IsHeldHead}
use Rattle.document_lines.specs.Ranges.{IsRanged}
use Rattle.document_lines.specs.declared.head.Claimed.{Claimed}
use Rattle.document_lines.specs.declared.judge.LineStop.{LineStop}
use Rattle.document_lines.specs.declared.judge.LineStop.TheVariants.{Refused, NoMemory}

-- a reader of no line before the first one
abbrev pub IsHeldBehind : Option SolvingJob → Result Parts ReadTextError → Type 0
IsHeldBehind (Some job) parts = IsHeldHead parts
IsHeldBehind None parts = parts ≡ Ok no_parts

-- behind the result line, behind the first line, or at the beginning
abbrev pub head_stage : Heading → Option SolvingJob → Result Parts ReadTextError → Option Claimed → Stage
head_stage heading job parts (Some c) = claimed heading c.instance c.claim
head_stage heading (Some job) parts None = Reading heading job (held_parts parts)
head_stage heading None parts None = Beginning heading

-- the result line wasn't read yet
abbrev pub is_open : Option Claimed → Bool
is_open (Some c) = false
is_open None = true

-- what a reader holds behind its lines
abbrev pub IsClaimedAs : Stage → Bool → Option Claimed → Type 0
IsClaimedAs stage takes (Some c) = stage ≡ claimed c.heading c.instance c.claim
IsClaimedAs stage takes None = takes ≡ true

-- the numbers of what is claimed are within their ends
abbrev pub IsRangedClaim : Option Claimed → Type 0
IsRangedClaim (Some c) = IsRanged c.instance c.claim
IsRangedClaim None = Unit {0}

-- it is claimed under this heading
abbrev pub IsClaimedUnder : Heading → Option Claimed → Type 0
IsClaimedUnder heading (Some c) = c.heading ≡ heading
IsClaimedUnder heading None = Unit {0}

-- a line of the instance text that was taken: the parts with it, or the reason of the refusal
abbrev pub TakesText : Parts → Line → Parts → Result (Unit {0}) LineStop → Type 0
TakesText parts line new (Ok u) = text_fault (add_line parts line) ≡ Ok new
TakesText parts line new (Err (Refused reason)) = text_fault (add_line parts line) ≡ Err reason
TakesText parts line new (Err NoMemory) = Unit {0}
