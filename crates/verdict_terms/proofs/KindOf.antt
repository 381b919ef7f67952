-- The kind of a text by its first line that isn't blank.
use Rattle.std.proofs.Common.{◌≡◌, ℕ, refl, sym, ap, ap₂, ◌∙◌, Bool, true, false, List, [], ◌∷◌, ◌++◌, length}
use Rattle.std.proofs.Common.{codes}
use Rattle.std.specs.List.{list_any}
use Rattle.std.proofs.lemmas.Bool.{true≢false, or_parts}
use Rattle.text_terms.specs.Lines.{text_lines, content, is_bad, words_of, same_bytes}
use Rattle.text_terms.specs.Form.{AreClean, filled_lines}
use Rattle.text_terms.proofs.FormRead.{filled_with}
use Rattle.text_terms.specs.declared.claim.SolvingJob.{SolvingJob}
use Rattle.text_terms.specs.declared.claim.SolvingJob.TheVariants.{Fit, Strip, Bins, Knapsack}
use Rattle.text_terms.specs.Claims.{job_of, job_word}
use Rattle.verdict_terms.specs.declared.heading.Heading.TheVariants.{Reduced, Bounded}
use Rattle.verdict_terms.specs.Stages.{is_blank}
use Rattle.verdict_terms.proofs.FormGiven.{documents_have_form}
use Rattle.verdict_terms.specs.declared.kind.DocumentKind.{DocumentKind}
use Rattle.verdict_terms.specs.declared.kind.DocumentKind.TheVariants.{Reduced as ReducedKind}
use Rattle.verdict_terms.specs.declared.kind.DocumentKind.TheVariants.{Bounded as BoundedKind}
use Rattle.verdict_terms.specs.Form.{MayName}
use Rattle.verdict_terms.specs.Kinds.{kind_of_words, kind_of_line, kind_of_lines}
use Rattle.verdict_terms.specs.Kinds.{ReducedDocumentsAreOfTheirKind, BoundedDocumentsAreOfTheirKind}

-- by the parts of the first line
abbrev kind_by : Bool → List (List ℕ) → List (List ℕ) → DocumentKind
kind_by b words lines =
    elim (is_blank (record { bad = b; count = length words; words = words })) as (λ b. DocumentKind) [
      | true ↦ kind_of_lines lines
      | false ↦ kind_of_line
          (record { bad = b; count = length words; words = words })
    ]

pub filled_kind : (lines : List (List ℕ)) (first : List (List ℕ)) (rest : List (List (List ℕ))) → AreClean lines
    → filled_lines lines ≡ first ∷ rest → kind_of_lines lines ≡ kind_of_words first
filled_kind [] first rest clean e = absurd (cc (e))
filled_kind (line ∷ lines) first rest clean e =
    by_parts (list_any is_bad (content line)) (words_of (content line)) refl refl (or_parts _ _ clean).0
    (λ f. filled_kind lines first rest (or_parts _ _ clean).1 f)
  where
    by_parts : (b : Bool) (words : List (List ℕ)) → list_any is_bad (content line) ≡ b
        → words_of (content line) ≡ words → list_any is_bad (content line) ≡ false
        → (filled_lines lines ≡ first ∷ rest → kind_of_lines lines ≡ kind_of_words first)
        → kind_of_lines (line ∷ lines) ≡ kind_of_words first
    by_parts true words bad is good later = absurd (true≢false (sym bad ∙ good))
    by_parts false [] bad is good later =
        ap₂ (λ b ws. kind_by b ws lines) bad is ∙ later (ap (λ ws. filled_with ws lines) (sym is) ∙ e)
    by_parts false (w ∷ ws) bad is good later =
        let f : (w ∷ ws) ∷ filled_lines lines ≡ first ∷ rest = ap (λ us. filled_with us lines) (sym is) ∙ e in
        let same : w ∷ ws ≡ first = cc (f) in
        ap₂ (λ b us. kind_by b us lines) bad is ∙ ap kind_of_words same

pub job_kind : (job : SolvingJob) → kind_of_words (codes "reduced" ∷ job_word job ∷ []) ≡ ReducedKind
unfolding same_bytes
job_kind Fit = refl
job_kind Strip = refl
job_kind Bins = refl
job_kind Knapsack = refl

pub reduced_documents : ReducedDocumentsAreOfTheirKind
reduced_documents text claim e =
    let d = (documents_have_form Reduced text claim).0 e in
    filled_kind (text_lines text) (codes "reduced" ∷ job_word (job_of claim) ∷ [])
    (d.written ++ (codes "result" ∷ d.result) ∷ (d.backing ++ (codes "end" ∷ []) ∷ [])) d.clean d.are
    ∙ job_kind (job_of claim)

-- the jobs of bounded documents
bounded_kind : (job : SolvingJob) → MayName Bounded job
    → kind_of_words (codes "bounded" ∷ job_word job ∷ []) ≡ BoundedKind
unfolding same_bytes
bounded_kind Fit h = absurd h
bounded_kind Strip h = refl
bounded_kind Bins h = absurd h
bounded_kind Knapsack h = refl

pub bounded_documents : BoundedDocumentsAreOfTheirKind
bounded_documents text claim e =
    let d = (documents_have_form Bounded text claim).0 e in
    filled_kind (text_lines text) (codes "bounded" ∷ job_word (job_of claim) ∷ [])
    (d.written ++ (codes "result" ∷ d.result) ∷ (d.backing ++ (codes "end" ∷ []) ∷ [])) d.clean d.are
    ∙ bounded_kind (job_of claim) d.headed
