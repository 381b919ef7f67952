-- A line that is cut to 12 words of 21 bytes is taken as the line itself; so the lines that a lexer
-- gives for a text give its verdict.
use Rattle.std.proofs.Common.{◌≡◌, ℕ, ◌+◌, ◌≤◌, refl, ap, ap₂, ◌∙◌, arith, Bool, true, false, cond, not, List, []}
use Rattle.std.proofs.Common.{◌∷◌, ◌||◌, length, Result, Ok, Err, codes}
use Rattle.packing_terms.specs.Packing.{dims}
use Rattle.packing_terms.specs.Results.{◌>>=◌}
use Rattle.text_terms.specs.Lines.{line_of, text_lines, cut_line, cut_words, same_bytes}
use Rattle.text_terms.specs.Texts.{Parts, no_parts, at_end as end_of, refuse, IsWithinLimits}
use Rattle.text_terms.specs.Feeding.{numbered_lines}
use Rattle.text_terms.proofs.Cut.{same_front, words_cut}
use Rattle.text_terms.proofs.LinesFed.{texts_are_lines}
use Rattle.verdict_terms.specs.Stages.{is_blank, is_word}
use Rattle.verdict_terms.proofs.Cuts.{is_word_cut}
use Rattle.verdict_terms.specs.StepLines.{step_of}
use Rattle.verdict_terms.specs.Auditing.{audited_after}
use Rattle.verdict_terms.proofs.StepsBack.{step_lines_are_told}
use Rattle.verdict_terms.specs.declared.explained_reason.ExplainedReason.{ExplainedReason}
use Rattle.verdict_terms.specs.ExplainedStages.{ExplainedStage, Heading, Reading, Explaining, Ending, Ended, form, require}
use Rattle.verdict_terms.specs.ExplainedStages.{are_two, text_fault, end_of_parts, begun, reading_line, tree_step, coded}
use Rattle.verdict_terms.specs.ExplainedStages.{grown, late_by, words_line, filled_line, stage_after}
use Rattle.verdict_terms.specs.ExplainedDocuments.{at_line, read_lines, told_verdict}
use Rattle.verdict_terms.specs.ExplainedDocuments.{explained_verdict, DocumentsAreFed}
use Rattle.verdict_terms.specs.declared.kind.DocumentKind.{DocumentKind}
use Rattle.verdict_terms.specs.declared.kind.DocumentKind.TheVariants.{Explained, Front, Bounded, Reduced}
use Rattle.verdict_terms.specs.Kinds.{begin_bounded, kind_of_line, kind_of_lines, kind_told}
use Rattle.verdict_terms.specs.Kinds.{KindsAreTold}
use Rattle.verdict_terms.proofs.Limits.{IsWell, stage_well}

two_cut : (key other word : List ℕ) (words : List (List ℕ)) → length key ≤ 20 → length other ≤ 20
    → are_two key other (cut_words (word ∷ words)) ≡ are_two key other (word ∷ words)
two_cut key other word [] k o = refl
two_cut key other word (next ∷ []) k o =
    rw (same_front 21 word key (omega (arith, k)), same_front 21 next other (omega (arith, o))) refl
two_cut key other word (next ∷ third ∷ words) k o = refl

step_told : (d : ℕ) (words : List (List ℕ)) → d ≤ 4 → step_of d (cut_words words) ≡ step_of d words
step_told d words few = step_lines_are_told d few (record { bad = false; count = 0; words = words })

words_told : (stage : ExplainedStage) (w : List ℕ) (ws : List (List ℕ)) → IsWell stage
    → words_line stage (cut_words (w ∷ ws)) ≡ words_line stage (w ∷ ws)
words_told Heading w ws well =
    ap (λ b. require b form (Ok (Reading no_parts)))
    (two_cut (codes "explained") (codes "fit") w ws (omega arith) (omega arith))
words_told (Reading parts) w ws well = refl
words_told (Explaining i nodes) w ws well =
    ap₂ (λ b o. tree_step b o >>= λ s. coded (audited_after i nodes s) >>= λ left. Ok (grown i left))
    (is_word_cut (codes "end") w ws (omega arith))
    (step_told (dims i) (w ∷ ws) well.dimensions.1)
words_told (Ending i) w ws well =
    ap₂ (λ b o. require b (late_by o) (Ok (Ended i))) (is_word_cut (codes "end") w ws (omega arith))
    (step_told (dims i) (w ∷ ws) well.dimensions.1)
words_told (Ended i) w ws well = refl

reading_told : (parts : Parts) (w : List ℕ) (ws : List (List ℕ)) (n m : ℕ) → IsWithinLimits parts
    → filled_line (Reading parts) (record { bad = false; count = n; words = cut_words (w ∷ ws) })
    ≡ filled_line (Reading parts) (record { bad = false; count = m; words = w ∷ ws })
reading_told parts w ws n m well =
    ap (λ b. reading_line b parts (record { bad = false; count = n; words = cut_words (w ∷ ws) }))
    (same_front 21 w (codes "result") (omega arith)) ∙ go (same_bytes w (codes "result"))
  where
    go : (b : Bool) → reading_line b parts (record { bad = false; count = n; words = cut_words (w ∷ ws) })
        ≡ reading_line b parts (record { bad = false; count = m; words = w ∷ ws })
    go true = ap (λ t. end_of_parts (end_of parts 0) >>= λ instance. require t form (Ok (begun instance)))
        (two_cut (codes "result") (codes "no") w ws (omega arith) (omega arith))
    go false = ap (λ r. text_fault (refuse false 8 r) >>= λ more. Ok (Reading more)) (words_cut parts (w ∷ ws) well.few)

filled_told : (stage : ExplainedStage) (bad : Bool) (w : List ℕ) (ws : List (List ℕ)) (n m : ℕ) → IsWell stage
    → filled_line stage (record { bad = bad; count = n; words = cut_words (w ∷ ws) })
    ≡ filled_line stage (record { bad = bad; count = m; words = w ∷ ws })
filled_told Heading bad w ws n m well = ap (require (not bad) form) (words_told Heading w ws well)
filled_told (Reading parts) true w ws n m well = refl
filled_told (Reading parts) false w ws n m well = reading_told parts w ws n m well
filled_told (Explaining i ns) bad w ws n m well = ap (require (not bad) form) (words_told (Explaining i ns) w ws well)
filled_told (Ending i) bad w ws n m well = ap (require (not bad) form) (words_told (Ending i) w ws well)
filled_told (Ended i) bad w ws n m well = refl

line_told : (stage : ExplainedStage) (bad : Bool) (words : List (List ℕ)) (n m : ℕ) → IsWell stage
    → stage_after stage (record { bad = bad; count = n; words = cut_words words })
    ≡ stage_after stage (record { bad = bad; count = m; words = words })
line_told stage true [] n m well = bad_same stage
  where
    bad_same : (s : ExplainedStage) → filled_line s (record { bad = true; count = n; words = [] })
        ≡ filled_line s (record { bad = true; count = m; words = [] })
    bad_same Heading = refl
    bad_same (Reading parts) = refl
    bad_same (Explaining i ns) = refl
    bad_same (Ending i) = refl
    bad_same (Ended i) = refl
line_told stage false [] n m well = refl
line_told stage true (w ∷ ws) n m well = filled_told stage true w ws n m well
line_told stage false (w ∷ ws) n m well = filled_told stage false w ws n m well

told_is_read : (stage : ExplainedStage) (n : ℕ) (lines : List (List ℕ)) → IsWell stage
    → told_verdict stage n (numbered_lines n lines) ≡ read_lines stage n lines
told_is_read stage n [] well = refl
told_is_read stage n (line ∷ lines) well =
    ap (λ r. at_line (n + 1) r >>= λ next. told_verdict next (n + 1) (numbered_lines (n + 1) lines))
    (line_told stage (line_of line).bad (line_of line).words (cut_line (line_of line)).count (line_of line).count well)
    ∙ go (stage_after stage (line_of line))
    (λ next e. told_is_read next (n + 1) lines (stage_well stage (line_of line) well next e))
  where
    go : (r : Result ExplainedStage ExplainedReason)
        → ((next : ExplainedStage) → r ≡ Ok next → told_verdict next (n + 1) (numbered_lines (n + 1) lines)
        ≡ read_lines next (n + 1) lines)
        → (at_line (n + 1) r >>= λ next. told_verdict next (n + 1) (numbered_lines (n + 1) lines))
        ≡ (at_line (n + 1) r >>= λ next. read_lines next (n + 1) lines)
    go (Ok next) later = later next refl
    go (Err reason) later = refl

pub documents_are_fed : DocumentsAreFed
unfolding explained_verdict
documents_are_fed text = ap (told_verdict Heading 0) (texts_are_lines text)
    ∙ told_is_read Heading 0 (text_lines text) tt

-- ---- the kind

kind_cut : (bad : Bool) (words : List (List ℕ)) (n m : ℕ) (later now : DocumentKind) → later ≡ now
    → ◌≡◌ {A = DocumentKind} (elim (is_blank (record { bad = bad; count = n; words = cut_words words }))
    [ true ↦ later | false ↦ kind_of_line (record { bad = bad; count = n; words = cut_words words }) ])
    (elim (is_blank (record { bad = bad; count = m; words = words }))
    [ true ↦ now | false ↦ kind_of_line (record { bad = bad; count = m; words = words }) ])
kind_cut true [] n m later now e = refl
kind_cut false [] n m later now e = e
kind_cut true (w ∷ ws) n m later now e = refl
kind_cut false (w ∷ ws) n m later now e =
    ap₂ (λ b c. cond b Explained (cond c Front
    (cond (begin_bounded (cut_words (w ∷ ws))) Bounded Reduced)))
    (two_cut (codes "explained") (codes "fit") w ws (omega arith) (omega arith))
    (is_word_cut (codes "front") w ws (omega arith))
    ∙ ap (λ d. cond (are_two (codes "explained") (codes "fit") (w ∷ ws)) Explained
    (cond (is_word (codes "front") (w ∷ ws)) Front (cond d Bounded Reduced)))
    (ap₂ (λ c d. c || d) (two_cut (codes "bounded") (codes "knapsack") w ws (omega arith) (omega arith))
    (two_cut (codes "bounded") (codes "strip") w ws (omega arith) (omega arith)))

kind_is_told : (n : ℕ) (lines : List (List ℕ)) → kind_told (numbered_lines n lines) ≡ kind_of_lines lines
kind_is_told n [] = refl
kind_is_told n (line ∷ lines) =
    kind_cut (line_of line).bad (line_of line).words (cut_line (line_of line)).count (line_of line).count
    (kind_told (numbered_lines (n + 1) lines)) (kind_of_lines lines)
    (kind_is_told (n + 1) lines)

pub kinds_are_told : KindsAreTold
kinds_are_told text = ap kind_told (texts_are_lines text) ∙ kind_is_told 0 (text_lines text)
