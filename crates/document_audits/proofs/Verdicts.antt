-- The verdict of all lines, and of the last one.
use Rattle.std.proofs.Common.{◌≡◌, ℕ, refl, sym, ap, subst, ◌∙◌, Bool, true, false, List, [], ◌∷◌, Result, Ok}
use Rattle.packing_terms.specs.Packing.{PlainInstance}
use Rattle.packing_terms.specs.Results.{◌>>=◌}
use Rattle.text_terms.specs.Feeding.{NumberedLine, ended_line, new_lexer}
use Rattle.verdict_terms.specs.Stages.{is_blank}
use Rattle.verdict_terms.specs.declared.explained_reason.ExplainedReason.{ExplainedReason}
use Rattle.verdict_terms.specs.declared.kind.DocumentKind.{DocumentKind}
use Rattle.verdict_terms.specs.Kinds.{document_kind, kind_of_line, kind_told}
use Rattle.verdict_terms.specs.ExplainedStages.{ExplainedStage, Heading, Ending, Ended, filled_line}
use Rattle.verdict_terms.specs.ExplainedDocuments.{ExplainedRefusal, at_line, explained_verdict, told_verdict}
use Rattle.verdict_terms.proofs.Told.{documents_are_fed, kinds_are_told}
use Rattle.verdict_terms.proofs.Shown.{documents_are_true}
use Rattle.document_audits.specs.declared.explained_audit.ExplainedAudit.{ExplainedAudit}
use Rattle.document_audits.specs.declared.explained_audit.ExplainedAudit.TheVariants.{Verified, Refused, NoMemory}
use Rattle.instance_text.specs.declared.cursor.Cursor.{Cursor}
use Rattle.instance_text.specs.Lines.{lines_left, past_blank, IsNextFilled}
use Rattle.document_audits.specs.ExplainedAudits.{IsVerdict, IsNextTaken, IsKindTold, IsTrueAudit, verdict_left}

-- blank lines are skipped
past_told : (stage : ExplainedStage) (n : ℕ) (ls : List NumberedLine)
    → told_verdict stage n ls ≡ told_verdict stage (past_blank n ls).0 (past_blank n ls).1
past_told stage n [] = refl
past_told stage n (l ∷ ls) = go (is_blank l.line) refl (past_told stage l.number ls)
  where
    made : Bool → Result PlainInstance ExplainedRefusal
    made b = at_line l.number (elim b as (λ x. Result ExplainedStage ExplainedReason)
        [ true ↦ Ok stage | false ↦ filled_line stage l.line ]) >>= λ next. told_verdict next l.number ls

    past : Bool → ℕ × List NumberedLine
    past b = elim b as (λ x. ℕ × List NumberedLine) [ true ↦ past_blank l.number ls | false ↦ (n, l ∷ ls) ]

    go : (b : Bool) → is_blank l.line ≡ b
        → told_verdict stage l.number ls ≡ told_verdict stage (past_blank l.number ls).0 (past_blank l.number ls).1
        → made b ≡ told_verdict stage (past b).0 (past b).1
    go true e later = later
    go false e later = ap made (sym e)

past_kind : (n : ℕ) (ls : List NumberedLine) → kind_told ls ≡ kind_told (past_blank n ls).1
past_kind n [] = refl
past_kind n (l ∷ ls) = go (is_blank l.line) refl (past_kind l.number ls)
  where
    made : Bool → DocumentKind
    made b = elim b as (λ x. DocumentKind) [ true ↦ kind_told ls | false ↦ kind_of_line l.line ]

    past : Bool → ℕ × List NumberedLine
    past b = elim b as (λ x. ℕ × List NumberedLine) [ true ↦ past_blank l.number ls | false ↦ (n, l ∷ ls) ]

    go : (b : Bool) → is_blank l.line ≡ b → kind_told ls ≡ kind_told (past_blank l.number ls).1
        → made b ≡ kind_told (past b).1
    go true e later = later
    go false e later = ap made (sym e)

pub next_told : (bytes : List ℕ) (old new : Cursor) (there : Bool) → IsNextFilled bytes old new there
    → IsNextTaken bytes old new there
next_told bytes old new true h = λ stage.
    past_told stage old.line.number (lines_left bytes old)
    ∙ ap (λ (p : ℕ × List NumberedLine). told_verdict stage p.0 p.1) h.1
    ∙ ap (λ b. at_line new.line.number
    (elim b as (λ x. Result ExplainedStage ExplainedReason)
    [ true ↦ Ok stage | false ↦ filled_line stage (ended_line new.line.held) ])
    >>= λ next. verdict_left bytes new next) h.2
next_told bytes old new false h = λ stage.
    past_told stage old.line.number (lines_left bytes old)
    ∙ ap (λ (p : ℕ × List NumberedLine). told_verdict stage p.0 p.1) h

pub kind_next : (bytes : List ℕ) (old new : Cursor) (there : Bool) → IsNextFilled bytes old new there
    → IsKindTold bytes old new there
kind_next bytes old new true h =
    past_kind old.line.number (lines_left bytes old) ∙ ap (λ (p : ℕ × List NumberedLine). kind_told p.1) h.1
    ∙ ap (λ b. elim b as (λ x. DocumentKind)
    [ true ↦ kind_told (lines_left bytes new) | false ↦ kind_of_line (ended_line new.line.held) ]) h.2
kind_next bytes old new false h =
    past_kind old.line.number (lines_left bytes old) ∙ ap (λ (p : ℕ × List NumberedLine). kind_told p.1) h

-- `end`, and no line behind it
pub ended : (bytes : List ℕ) (old mid new : Cursor) (i : PlainInstance) → IsNextTaken bytes old mid true
    → Ok (Ended i) ≡ filled_line (Ending i) (ended_line mid.line.held)
    → IsNextTaken bytes mid new false → verdict_left bytes old (Ending i) ≡ Ok i
ended bytes old mid new i first is last =
    first (Ending i) ∙ ap (λ r. at_line mid.line.number r >>= λ next. verdict_left bytes mid next) (sym is)
    ∙ last (Ended i)

-- before the first byte
pub whole : (bytes : List ℕ) (start : Cursor) (end : ExplainedAudit) → start ≡ record { line = new_lexer; given = 0 }
    → IsVerdict (verdict_left bytes start Heading) end
    → IsVerdict (explained_verdict bytes) end
whole bytes start end e h = subst (λ v. IsVerdict v end)
    (ap (λ at. verdict_left bytes at Heading) e ∙ documents_are_fed bytes) h

pub true_audit : (bytes : List ℕ) (end : ExplainedAudit) → IsVerdict (explained_verdict bytes) end
    → IsTrueAudit bytes end
true_audit bytes Verified h = (h.0, h.1, documents_are_true bytes h.0 h.1)
true_audit bytes (Refused line reason) h = tt
true_audit bytes NoMemory h = tt

pub kind_whole : (bytes : List ℕ) (start : Cursor) (kind : DocumentKind)
    → start ≡ record { line = new_lexer; given = 0 } → kind ≡ kind_told (lines_left bytes start)
    → kind ≡ document_kind bytes
kind_whole bytes start kind e h = h ∙ ap (λ at. kind_told (lines_left bytes at)) e ∙ kinds_are_told bytes
