-- The instance of a verified document has no packing.
use Rattle.std.proofs.Common.{◌≡◌, ℕ, ◌+◌, refl, sym, ap, subst, ◌∙◌, Bool, true, false, not, List, [], ◌∷◌, Result, Ok}
use Rattle.std.proofs.Common.{Err, codes}
use Rattle.packing_terms.specs.Packing.{PlainInstance, dims}
use Rattle.packing_terms.specs.Limits.{IsInstance}
use Rattle.packing_terms.specs.Results.{◌>>=◌}
use Rattle.packing_terms.proofs.Internal.{internal_sides, written_internal}
use Rattle.packing_terms.proofs.Excess.{excess_law}
use Rattle.text_terms.specs.Lines.{Line, line_of, text_lines}
use Rattle.text_terms.specs.Texts.{Parts, no_parts, add_line, at_end as end_of, IsWithinLimits}
use Rattle.text_terms.proofs.Good.{parts_limits, bind_ok}
use Rattle.verdict_terms.specs.Stages.{is_word, is_result, is_blank}
use Rattle.verdict_terms.specs.Steps.{PlainStep}
use Rattle.verdict_terms.specs.StepLines.{step_of}
use Rattle.verdict_terms.specs.ExplainedJudging.{AuditNode}
use Rattle.verdict_terms.specs.Auditing.{audited_after, audited_after_all}
use Rattle.verdict_terms.proofs.Explained.{fed_explains}
use Rattle.verdict_terms.proofs.Sound.{none_fits}
use Rattle.verdict_terms.specs.declared.explained_reason.ExplainedReason.{ExplainedReason}
use Rattle.verdict_terms.specs.ExplainedStages.{ExplainedStage, Heading, Reading, Explaining, Ending, Ended, form, require}
use Rattle.verdict_terms.specs.ExplainedStages.{are_two, text_fault, end_of_parts, begun, reading_line, tree_step, coded}
use Rattle.verdict_terms.specs.ExplainedStages.{grown, late_by, words_line, filled_line, stage_after}
use Rattle.verdict_terms.specs.ExplainedDocuments.{at_line, at_end, read_lines, explained_verdict}
use Rattle.verdict_terms.specs.ExplainedDocuments.{IsShown, DocumentsAreTrue}
use Rattle.verdict_terms.proofs.ExplainedDocumentPassed.{ok_is, require_ok, coded_ok, end_ok}
use Rattle.verdict_terms.proofs.Limits.{IsWell, stage_well}

-- where the lines behind a stage verify the instance
abbrev Shows : PlainInstance → ExplainedStage → Type 0
Shows j Heading = IsShown j
Shows j (Reading parts) = IsShown j
Shows j (Explaining i nodes) = (i ≡ j) × (z : List PlainStep) × (audited_after_all i nodes z ≡ Ok [])
Shows j (Ending i) = i ≡ j
Shows j (Ended i) = i ≡ j

begun_shows : (i j : PlainInstance) → IsInstance i → Shows j (begun i) → IsShown j
begun_shows i j limits h =
    subst IsShown h.0 (record {
      limits = limits;
      none = none_fits excess_law i (internal_sides i (written_internal i limits)) h.1 (fed_explains i [] h.1 h.2);
    })

grown_shows : (i j : PlainInstance) (nodes left : List AuditNode) (s : PlainStep) → audited_after i nodes s ≡ Ok left
    → Shows j (grown i left) → Shows j (Explaining i nodes)
grown_shows i j nodes [] s e h = (h, s ∷ [], ap (λ r. r >>= λ l. audited_after_all i l []) e)
grown_shows i j nodes (n ∷ left) s e h = (h.0, s ∷ h.1, ap (λ r. r >>= λ l. audited_after_all i l h.1) e ∙ h.2)

module _ (j : PlainInstance) where
  -- what a line makes of a stage
  abbrev Leads : ExplainedStage → Result ExplainedStage ExplainedReason → Type 0
  Leads stage r = (next : ExplainedStage) → r ≡ Ok next → Shows j next → Shows j stage

  words_lead : (stage : ExplainedStage) (words : List (List ℕ)) → IsWell stage → Leads stage (words_line stage words)
  words_lead Heading words well next e h =
      let same = ok_is (Reading no_parts) next
      (require_ok (are_two (codes "explained") (codes "fit") words) form (Ok (Reading no_parts)) next e).1 in
      subst (Shows j) (sym same) h
  words_lead (Reading parts) words well next e h = absurd (cc (e))
  words_lead (Explaining i nodes) words well next e h =
      let s = bind_ok (tree_step (is_word (codes "end") words) (step_of (dims i) words))
      (λ s. coded (audited_after i nodes s) >>= λ left. Ok (grown i left)) next e in
      let m = bind_ok (coded (audited_after i nodes s.0)) (λ left. Ok (grown i left)) next s.2 in
      grown_shows i j nodes m.0 s.0 (coded_ok (audited_after i nodes s.0) m.0 m.1)
      (subst (Shows j) (sym (ok_is (grown i m.0) next m.2)) h)
  words_lead (Ending i) words well next e h =
      let same = ok_is (Ended i) next
      (require_ok (is_word (codes "end") words) (late_by (step_of (dims i) words)) (Ok (Ended i)) next e).1 in
      subst (Shows j) (sym same) h
  words_lead (Ended i) words well next e h = absurd (cc (e))

  reading_lead : (b : Bool) (parts : Parts) (line : Line) → IsWithinLimits parts
      → Leads (Reading parts) (reading_line b parts line)
  reading_lead true parts line well next e h =
      let i = bind_ok (end_of_parts (end_of parts 0))
      (λ instance. require (are_two (codes "result") (codes "no") line.words) form (Ok (begun instance))) next e in
      let r = require_ok (are_two (codes "result") (codes "no") line.words) form (Ok (begun i.0)) next i.2 in
      begun_shows i.0 j (parts_limits parts i.0 0 well (end_ok (end_of parts 0) i.0 i.1))
      (subst (Shows j) (sym (ok_is (begun i.0) next r.1)) h)
  reading_lead false parts line well next e h =
      let m = bind_ok (text_fault (add_line parts line)) (λ more. Ok (Reading more)) next e in
      subst (Shows j) (sym (ok_is (Reading m.0) next m.2)) h

  filled_lead : (stage : ExplainedStage) (line : Line) → IsWell stage → Leads stage (filled_line stage line)
  filled_lead Heading line well next e h =
      words_lead Heading line.words well next (require_ok (not line.bad) form (words_line Heading line.words) next e).1 h
  filled_lead (Reading parts) line well next e h = reading_lead (is_result line) parts line well next e h
  filled_lead (Explaining i ns) line well next e h =
      words_lead (Explaining i ns) line.words well next
      (require_ok (not line.bad) form (words_line (Explaining i ns) line.words) next e).1 h
  filled_lead (Ending i) line well next e h =
      words_lead (Ending i) line.words well next
      (require_ok (not line.bad) form (words_line (Ending i) line.words) next e).1 h
  filled_lead (Ended i) line well next e h = absurd (cc (e))

  stage_leads : (stage : ExplainedStage) (line : Line) → IsWell stage → Leads stage (stage_after stage line)
  stage_leads stage line well next e h = go (is_blank line) e
    where
      go : (b : Bool) → ◌≡◌ {A = Result ExplainedStage ExplainedReason}
          (elim b [ true ↦ Ok stage | false ↦ filled_line stage line ]) (Ok next) → Shows j stage
      go true f = subst (Shows j) (sym (ok_is stage next f)) h
      go false f = filled_lead stage line well next f h

  end_shows : (stage : ExplainedStage) (n : ℕ) → at_end stage n ≡ Ok j → Shows j stage
  end_shows (Ended i) n e = ok_is i j e
  end_shows Heading n e = absurd (cc (e))
  end_shows (Reading parts) n e = absurd (cc (e))
  end_shows (Explaining i ns) n e = absurd (cc (e))
  end_shows (Ending i) n e = absurd (cc (e))

  lines_show : (stage : ExplainedStage) (n : ℕ) (lines : List (List ℕ)) → IsWell stage → read_lines stage n lines ≡ Ok j
      → Shows j stage
  lines_show stage n [] well e = end_shows stage n e
  lines_show stage n (line ∷ lines) well e =
      go (stage_after stage (line_of line)) refl e
      (λ next f g. lines_show next (n + 1) lines (stage_well stage (line_of line) well next f) g)
    where
      go : (r : Result ExplainedStage ExplainedReason) → stage_after stage (line_of line) ≡ r
          → (at_line (n + 1) r >>= λ next. read_lines next (n + 1) lines) ≡ Ok j
          → ((next : ExplainedStage) → stage_after stage (line_of line) ≡ Ok next → read_lines next (n + 1) lines ≡ Ok j
          → Shows j next) → Shows j stage
      go (Ok next) f g later = stage_leads stage (line_of line) well next f (later next f g)
      go (Err reason) f g later = absurd (cc (g))

pub documents_are_true : DocumentsAreTrue
unfolding explained_verdict
documents_are_true text instance e = lines_show instance Heading 0 (text_lines text) tt e
