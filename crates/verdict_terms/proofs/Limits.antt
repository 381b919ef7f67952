-- The instance of a document is within the limits while its lines come.
use Rattle.std.proofs.Common.{◌≡◌, ℕ, subst, Bool, true, false, not, List, [], ◌∷◌, Result, Ok, codes}
use Rattle.packing_terms.specs.Packing.{PlainInstance, dims}
use Rattle.packing_terms.specs.Limits.{IsInstance}
use Rattle.packing_terms.specs.Results.{◌>>=◌}
use Rattle.text_terms.specs.Lines.{Line}
use Rattle.text_terms.specs.Texts.{Parts, no_parts, add_line, at_end, IsWithinLimits}
use Rattle.text_terms.proofs.Good.{good_start, line_good, parts_limits, bind_ok}
use Rattle.verdict_terms.specs.Stages.{is_word, is_result, is_blank}
use Rattle.verdict_terms.specs.StepLines.{step_of}
use Rattle.verdict_terms.specs.ExplainedJudging.{AuditNode}
use Rattle.verdict_terms.specs.Auditing.{audited_after}
use Rattle.verdict_terms.specs.declared.explained_reason.ExplainedReason.{ExplainedReason}
use Rattle.verdict_terms.specs.ExplainedStages.{ExplainedStage, Heading, Reading, Explaining, Ending, Ended, form, require}
use Rattle.verdict_terms.specs.ExplainedStages.{are_two, text_fault, end_of_parts, begun, reading_line, tree_step, coded}
use Rattle.verdict_terms.specs.ExplainedStages.{grown, late_by, words_line, filled_line, stage_after}
use Rattle.verdict_terms.proofs.ExplainedDocumentPassed.{ok_is, require_ok, fault_ok, end_ok}

abbrev pub IsWell : ExplainedStage → Type 0
IsWell Heading = Unit {0}
IsWell (Reading parts) = IsWithinLimits parts
IsWell (Explaining instance nodes) = IsInstance instance
IsWell (Ending instance) = IsInstance instance
IsWell (Ended instance) = IsInstance instance

abbrev GivesWell : Result ExplainedStage ExplainedReason → Type 0
GivesWell r = (next : ExplainedStage) → r ≡ Ok next → IsWell next

gives_well : (stage : ExplainedStage) → IsWell stage → GivesWell (Ok stage)
gives_well stage well next e = subst IsWell (ok_is stage next e) well

grown_well : (instance : PlainInstance) (nodes : List AuditNode) → IsInstance instance → IsWell (grown instance nodes)
grown_well instance [] well = well
grown_well instance (n ∷ nodes) well = well

words_well : (stage : ExplainedStage) (words : List (List ℕ)) → IsWell stage → GivesWell (words_line stage words)
words_well Heading words well next e =
    gives_well (Reading no_parts) good_start next
    (require_ok (are_two (codes "explained") (codes "fit") words) form (Ok (Reading no_parts)) next e).1
words_well (Reading parts) words well next e = absurd (cc (e))
words_well (Explaining i nodes) words well next e =
    let s = bind_ok (tree_step (is_word (codes "end") words) (step_of (dims i) words))
    (λ s. coded (audited_after i nodes s) >>= λ left. Ok (grown i left)) next e in
    let m = bind_ok (coded (audited_after i nodes s.0)) (λ left. Ok (grown i left)) next s.2 in
    gives_well (grown i m.0) (grown_well i m.0 well) next m.2
words_well (Ending i) words well next e =
    gives_well (Ended i) well next
    (require_ok (is_word (codes "end") words) (late_by (step_of (dims i) words)) (Ok (Ended i)) next e).1
words_well (Ended i) words well next e = absurd (cc (e))

reading_well : (b : Bool) (parts : Parts) (line : Line) → IsWithinLimits parts → GivesWell (reading_line b parts line)
reading_well true parts line well next e =
    let i = bind_ok (end_of_parts (at_end parts 0))
    (λ instance. require (are_two (codes "result") (codes "no") line.words) form (Ok (begun instance))) next e in
    let r = require_ok (are_two (codes "result") (codes "no") line.words) form (Ok (begun i.0)) next i.2 in
    gives_well (begun i.0) (parts_limits parts i.0 0 well (end_ok (at_end parts 0) i.0 i.1)) next r.1
reading_well false parts line well next e =
    let m = bind_ok (text_fault (add_line parts line)) (λ more. Ok (Reading more)) next e in
    gives_well (Reading m.0) (line_good parts m.0 line well (fault_ok (add_line parts line) m.0 m.1)) next m.2

filled_well : (stage : ExplainedStage) (line : Line) → IsWell stage → GivesWell (filled_line stage line)
filled_well Heading line well next e =
    words_well Heading line.words well next (require_ok (not line.bad) form (words_line Heading line.words) next e).1
filled_well (Reading parts) line well next e = reading_well (is_result line) parts line well next e
filled_well (Explaining i ns) line well next e =
    words_well (Explaining i ns) line.words well next
    (require_ok (not line.bad) form (words_line (Explaining i ns) line.words) next e).1
filled_well (Ending i) line well next e =
    words_well (Ending i) line.words well next
    (require_ok (not line.bad) form (words_line (Ending i) line.words) next e).1
filled_well (Ended i) line well next e = absurd (cc (e))

pub stage_well : (stage : ExplainedStage) (line : Line) → IsWell stage → GivesWell (stage_after stage line)
stage_well stage line well next e = go (is_blank line) e
  where
    go : (b : Bool) → ◌≡◌ {A = Result ExplainedStage ExplainedReason}
        (elim b [ true ↦ Ok stage | false ↦ filled_line stage line ]) (Ok next) → IsWell next
    go true f = gives_well stage well next f
    go false f = filled_well stage line well next f
