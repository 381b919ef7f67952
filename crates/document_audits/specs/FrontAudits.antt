-- What the audit of a document of a front says.
use Rattle.std.specs.Prelude.{ℕ, ◌≡◌, Bool, true, false, List, Option, Some, None, Result, Ok, Err}
use Rattle.packing_terms.specs.Packing.{PlainInstance, dims}
use Rattle.packing_terms.specs.Limits.{IsInstance}
use Rattle.packing_terms.specs.Results.{◌>>=◌}
use Rattle.text_terms.specs.Feeding.{ended_line}
use Rattle.verdict_terms.specs.Documents.{Refusal, document_at_line}
use Rattle.verdict_terms.specs.FrontDocumentVerdicts.{FrontClaim, FrontRead, DocumentStage, front_filled_line, front_at_end}
use Rattle.verdict_terms.specs.FrontDocumentVerdicts.{front_document_verdict}
use Rattle.verdict_terms.specs.FrontDocumentFed.{told_front_verdict}
use Rattle.verdict_terms.specs.Points.{points_of_text}
use Rattle.verdict_terms.specs.FrontDocumentLaws.{IsTrueFrontOf}
use Rattle.instance_text.specs.declared.cursor.Cursor.{Cursor}
use Rattle.instance_text.specs.Lines.{lines_left}
use Rattle.document_audits.specs.declared.front_audit.FrontAudit.{FrontAudit}
use Rattle.document_audits.specs.declared.front_audit.FrontAudit.TheVariants.{Verified, Refused, NoMemory}

-- all points, or those of a part, and how many
abbrev pub claim_of : Bool → ℕ → FrontClaim
claim_of complete points = record { complete = complete; points = points }

-- verified, with the claim about this instance
abbrev pub verified_of : PlainInstance → Bool → ℕ → Result FrontRead Refusal
verified_of instance complete points = Ok (record { instance = instance; claim = claim_of complete points })

-- the verdict, unless memory was refused
abbrev pub IsVerdict : Result FrontRead Refusal → FrontAudit → Type 0
IsVerdict verdict (Verified complete points) =
    (instance : PlainInstance) × (verdict ≡ verified_of instance complete points)
IsVerdict verdict (Refused line reason) = verdict ≡ Err (record { line = line; reason = reason })
IsVerdict verdict NoMemory = Unit {0}

-- the same of what there may be
abbrev pub IsStopped : Result FrontRead Refusal → Option FrontAudit → Type 0
IsStopped verdict None = Unit {0}
IsStopped verdict (Some end) = IsVerdict verdict end

-- the verdict of the lines that are left, at a stage
abbrev pub verdict_left : List ℕ → Cursor → DocumentStage → Result FrontRead Refusal
verdict_left bytes at stage = told_front_verdict stage at.line.number (lines_left bytes at)

-- the next line that isn't blank decides, or the end of the lines
abbrev pub IsNextTaken : List ℕ → Cursor → Cursor → Bool → Type 0
IsNextTaken bytes old new true = (stage : DocumentStage) → verdict_left bytes old stage
    ≡ (document_at_line new.line.number (front_filled_line stage (ended_line new.line.held))
    >>= λ next. verdict_left bytes new next)
IsNextTaken bytes old new false =
    (stage : DocumentStage) → verdict_left bytes old stage ≡ front_at_end stage new.line.number

-- what a verified claim says of the instance in the document, and of the points that its lines name
pub record IsTrueClaim (bytes : List ℕ) (complete : Bool) (points : ℕ) : Type 0 where
  pub instance : PlainInstance
  pub verdict : front_document_verdict bytes ≡ verified_of instance complete points
  pub limits : IsInstance instance
  pub plane : dims instance ≡ 2
  pub front : IsTrueFrontOf instance (claim_of complete points) (points_of_text bytes)

abbrev pub IsTrueAudit : List ℕ → FrontAudit → Type 0
IsTrueAudit bytes (Verified complete points) = IsTrueClaim bytes complete points
IsTrueAudit bytes _ = Unit {0}
