-- What the audit of an explained document says.
use Rattle.std.specs.Prelude.{ℕ, ◌≡◌, Bool, true, false, List, Option, Some, None, Result, Ok, Err}
use Rattle.packing_terms.specs.Packing.{PlainInstance}
use Rattle.packing_terms.specs.Results.{◌>>=◌}
use Rattle.text_terms.specs.Feeding.{ended_line}
use Rattle.verdict_terms.specs.declared.kind.DocumentKind.TheVariants.{Reduced}
use Rattle.verdict_terms.specs.Kinds.{kind_of_line, kind_told}
use Rattle.verdict_terms.specs.ExplainedStages.{ExplainedStage, filled_line}
use Rattle.verdict_terms.specs.ExplainedDocuments.{ExplainedRefusal, at_line, at_end, explained_verdict, told_verdict}
use Rattle.verdict_terms.specs.ExplainedDocuments.{IsShown}
use Rattle.document_audits.specs.declared.explained_audit.ExplainedAudit.{ExplainedAudit}
use Rattle.document_audits.specs.declared.explained_audit.ExplainedAudit.TheVariants.{Verified, Refused, NoMemory}
use Rattle.instance_text.specs.declared.cursor.Cursor.{Cursor}
use Rattle.instance_text.specs.Lines.{lines_left}

-- the verdict, unless memory was refused
abbrev pub IsVerdict : Result PlainInstance ExplainedRefusal → ExplainedAudit → Type 0
IsVerdict verdict Verified = (instance : PlainInstance) × (verdict ≡ Ok instance)
IsVerdict verdict (Refused line reason) = verdict ≡ Err (record { line = line; reason = reason })
IsVerdict verdict NoMemory = Unit {0}

-- the verdict of the lines that are left, at a stage
abbrev pub verdict_left : List ℕ → Cursor → ExplainedStage → Result PlainInstance ExplainedRefusal
verdict_left bytes at stage = told_verdict stage at.line.number (lines_left bytes at)

-- what is verified has no packing
abbrev pub IsTrueAudit : List ℕ → ExplainedAudit → Type 0
IsTrueAudit bytes Verified = (instance : PlainInstance) × (explained_verdict bytes ≡ Ok instance) × IsShown instance
IsTrueAudit bytes _ = Unit {0}

-- the same of what there may be
abbrev pub IsStopped : Result PlainInstance ExplainedRefusal → Option ExplainedAudit → Type 0
IsStopped verdict None = Unit {0}
IsStopped verdict (Some end) = IsVerdict verdict end

-- the next line that isn't blank decides, or the end of the lines
abbrev pub IsNextTaken : List ℕ → Cursor → Cursor → Bool → Type 0
IsNextTaken bytes old new true = (stage : ExplainedStage) → verdict_left bytes old stage
    ≡ (at_line new.line.number (filled_line stage (ended_line new.line.held)) >>= λ next. verdict_left bytes new next)
IsNextTaken bytes old new false = (stage : ExplainedStage) → verdict_left bytes old stage ≡ at_end stage new.line.number

-- so it decides the kind
abbrev pub IsKindTold : List ℕ → Cursor → Cursor → Bool → Type 0
IsKindTold bytes old new true = kind_told (lines_left bytes old) ≡ kind_of_line (ended_line new.line.held)
IsKindTold bytes old new false = kind_told (lines_left bytes old) ≡ Reduced
