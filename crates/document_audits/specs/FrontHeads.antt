-- The lines up to the result line.
use Rattle.std.specs.Prelude.{ℕ, ◌≡◌, cond, Bool, true, false, List, Result, Ok, Err, nat_le, codes}
use Rattle.packing_terms.specs.Results.{◌>>=◌}
use Rattle.text_terms.specs.Lines.{Line, same_bytes}
use Rattle.text_terms.specs.Texts.{Parts, add_line}
use Rattle.verdict_terms.specs.declared.reason.Reason.{Reason}
use Rattle.verdict_terms.specs.Reasons.{form, range}
use Rattle.verdict_terms.specs.Numbers.{require, wanted}
use Rattle.verdict_terms.specs.Stages.{text_fault}
use Rattle.verdict_terms.specs.Lines.{announced}
use Rattle.verdict_terms.specs.FrontDocumentVerdicts.{FrontClaim, DocumentStage, Fronting, most_points}
use Rattle.document_audits.specs.FrontAudits.{claim_of}
use Rattle.document_audits.specs.declared.front_head.Head.{Head}
use Rattle.document_audits.specs.declared.front_head.TextStop.{TextStop}
use Rattle.document_audits.specs.declared.front_head.TextStop.TheVariants.{Refused, NoMemory}

-- a line of the instance text that was taken: the parts with it, or the reason of the refusal
abbrev pub TakesText : Parts → Line → Parts → Result (Unit {0}) TextStop → Type 0
TakesText parts line new (Ok u) = text_fault (add_line parts line) ≡ Ok new
TakesText parts line new (Err (Refused reason)) = text_fault (add_line parts line) ≡ Err reason
TakesText parts line new (Err NoMemory) = Unit {0}

-- whether a word says that all points are there
abbrev pub completeness : List ℕ → Result Bool Reason
completeness word = cond (same_bytes word (codes "front")) (Ok true)
    (cond (same_bytes word (codes "partial")) (Ok false) (Err form))

-- how many points a word says
abbrev pub counted_points : List ℕ → Result ℕ Reason
counted_points word = wanted word >>= λ n. require (nat_le n most_points) range (Ok n)

abbrev pub claim_told : Bool × ℕ → FrontClaim
claim_told p = claim_of p.0 p.1

-- behind the result line
abbrev pub head_stage : Head → DocumentStage
head_stage h = Fronting h.instance (claim_of h.complete h.points) (announced h.points)
