-- The verdict of the lines that are left, line by line.
use Rattle.std.proofs.Common.{◌≡◌, ℕ, refl, sym, ap, ◌∙◌, subst, Bool, true, false, List, [], ◌∷◌, Result, Ok, Err}
use Rattle.packing_terms.specs.Results.{◌>>=◌}
use Rattle.text_terms.specs.Feeding.{NumberedLine, ended_line, new_lexer}
use Rattle.verdict_terms.specs.declared.reason.Reason.{Reason}
use Rattle.verdict_terms.specs.Documents.{Refusal, document_at_line}
use Rattle.verdict_terms.specs.Stages.{is_blank}
use Rattle.verdict_terms.specs.FrontDocumentVerdicts.{FrontRead, DocumentStage, Opening, front_filled_line}
use Rattle.verdict_terms.specs.FrontDocumentVerdicts.{front_document_verdict}
use Rattle.verdict_terms.specs.FrontDocumentFed.{told_front_verdict}
use Rattle.verdict_terms.proofs.FrontDocumentTold.{fronts_are_fed}
use Rattle.verdict_terms.proofs.Verified.{verified_fronts_are_true}
use Rattle.instance_text.specs.declared.cursor.Cursor.{Cursor}
use Rattle.instance_text.specs.Lines.{lines_left, past_blank, IsNextFilled}
use Rattle.document_audits.specs.declared.front_audit.FrontAudit.{FrontAudit}
use Rattle.document_audits.specs.declared.front_audit.FrontAudit.TheVariants.{Verified, Refused, NoMemory}
use Rattle.document_audits.specs.FrontAudits.{claim_of, IsVerdict, IsNextTaken, IsTrueAudit, verdict_left}

-- blank lines are skipped
past_told : (stage : DocumentStage) (n : ℕ) (ls : List NumberedLine)
    → told_front_verdict stage n ls ≡ told_front_verdict stage (past_blank n ls).0 (past_blank n ls).1
past_told stage n [] = refl
past_told stage n (l ∷ ls) = go (is_blank l.line) refl (past_told stage l.number ls)
  where
    made : Bool → Result FrontRead Refusal
    made b = document_at_line l.number
        (elim b as (λ x. Result DocumentStage Reason) [ true ↦ Ok stage | false ↦ front_filled_line stage l.line ])
        >>= λ next. told_front_verdict next l.number ls

    past : Bool → ℕ × List NumberedLine
    past b = elim b as (λ x. ℕ × List NumberedLine) [ true ↦ past_blank l.number ls | false ↦ (n, l ∷ ls) ]

    go : (b : Bool) → is_blank l.line ≡ b
        → told_front_verdict stage l.number ls ≡ told_front_verdict stage (past_blank l.number ls).0
        (past_blank l.number ls).1 → made b ≡ told_front_verdict stage (past b).0 (past b).1
    go true e later = later
    go false e later = ap made (sym e)

pub next_told : (bytes : List ℕ) (old new : Cursor) (there : Bool) → IsNextFilled bytes old new there
    → IsNextTaken bytes old new there
next_told bytes old new true h = λ stage.
    past_told stage old.line.number (lines_left bytes old)
    ∙ ap (λ (p : ℕ × List NumberedLine). told_front_verdict stage p.0 p.1) h.1
    ∙ ap (λ b. document_at_line new.line.number
    (elim b as (λ x. Result DocumentStage Reason)
    [ true ↦ Ok stage | false ↦ front_filled_line stage (ended_line new.line.held) ])
    >>= λ next. verdict_left bytes new next) h.2
next_told bytes old new false h = λ stage.
    past_told stage old.line.number (lines_left bytes old)
    ∙ ap (λ (p : ℕ × List NumberedLine). told_front_verdict stage p.0 p.1) h

-- a line that is taken leads on, and one that is refused ends the reading
module _ (bytes : List ℕ) (old new : Cursor) (next : IsNextTaken bytes old new true) (stage : DocumentStage) where
  pub taken_on : (then : DocumentStage) → front_filled_line stage (ended_line new.line.held) ≡ Ok then
      → verdict_left bytes old stage ≡ verdict_left bytes new then
  taken_on then e = next stage ∙ ap (λ r. document_at_line new.line.number r >>= λ s. verdict_left bytes new s) e

  pub taken_refused : (reason : Reason) → front_filled_line stage (ended_line new.line.held) ≡ Err reason
      → verdict_left bytes old stage ≡ Err (record { line = new.line.number; reason = reason })
  taken_refused reason e = next stage ∙ ap (λ r. document_at_line new.line.number r >>= λ s. verdict_left bytes new s) e

-- before the first byte
pub whole : (bytes : List ℕ) (start : Cursor) (end : FrontAudit) → start ≡ record { line = new_lexer; given = 0 }
    → IsVerdict (verdict_left bytes start Opening) end
    → IsVerdict (front_document_verdict bytes) end
whole bytes start end e h = subst (λ v. IsVerdict v end)
    (ap (λ at. verdict_left bytes at Opening) e ∙ fronts_are_fed bytes) h

pub true_audit : (bytes : List ℕ) (end : FrontAudit) → IsVerdict (front_document_verdict bytes) end
    → IsTrueAudit bytes end
true_audit bytes (Verified complete points) h =
    let t = verified_fronts_are_true bytes (record { instance = h.0; claim = claim_of complete points }) h.1 in
    record { instance = h.0; verdict = h.1; limits = t.0; plane = t.1; front = t.2 }
true_audit bytes (Refused line reason) h = tt
true_audit bytes NoMemory h = tt
