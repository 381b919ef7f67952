-- The document of an explanation is verified, and about its instance.
use Rattle.std.proofs.Common.{◌≡◌, ◌∙◌, ℕ, ◌+◌, refl, sym, ap, arith, Bool, true, false, codes}
use Rattle.std.proofs.Common.{List, [], ◌∷◌, ◌++◌, append-nil, map, length, Option, Some, None, Ok}
use Rattle.std.proofs.lemmas.List.{map-append}
use Rattle.packing_terms.specs.Packing.{PlainInstance, dims}
use Rattle.packing_terms.specs.Limits.{IsInstance}
use Rattle.packing_terms.specs.Results.{◌>>=◌}
use Rattle.packing_terms.proofs.Internal.{written_internal}
use Rattle.text_terms.specs.Lines.{Line, line_of, text_lines, same_bytes}
use Rattle.text_terms.specs.Texts.{Parts, no_parts, add_line, at_line as on_line, at_end as end_of, is_none}
use Rattle.text_terms.specs.Texts.{text_instance, read_lines as read_instance_lines}
use Rattle.text_terms.specs.Spelling.{spaced, instance_words, instance_text, lines_text}
use Rattle.text_terms.proofs.Spelled.{AreWords, AreLines, line_spaced, lines_spaced}
use Rattle.text_terms.proofs.Back.{read_back}
use Rattle.text_terms.proofs.Good.{bind_ok}
use Rattle.verdict_terms.specs.Stages.{is_word, is_blank}
use Rattle.verdict_terms.proofs.FormTold.{any_end}
use Rattle.verdict_terms.proofs.Passed.{is_word_ok}
use Rattle.verdict_terms.specs.Steps.{PlainStep}
use Rattle.verdict_terms.specs.StepLines.{step_of, step_words}
use Rattle.verdict_terms.specs.ExplainedJudging.{AuditNode, at_rest}
use Rattle.verdict_terms.specs.Auditing.{audited_after, audited_after_all}
use Rattle.verdict_terms.proofs.ExplainedFed.{explained_fed}
use Rattle.verdict_terms.proofs.StepsBack.{steps_are_read_back}
use Rattle.verdict_terms.specs.ExplainedStages.{ExplainedStage, Heading, Reading, Explaining, Ending, Ended, form, begun}
use Rattle.verdict_terms.specs.ExplainedStages.{grown, tree_step, text_fault, end_of_parts, reading_line}
use Rattle.verdict_terms.specs.ExplainedStages.{require, are_two, coded, stage_after}
use Rattle.verdict_terms.specs.declared.kind.DocumentKind.{DocumentKind}
use Rattle.verdict_terms.specs.declared.kind.DocumentKind.TheVariants.{Explained as ExplainedKind}
use Rattle.verdict_terms.specs.Kinds.{kind_of_line, kind_of_lines}
use Rattle.verdict_terms.specs.ExplainedDocuments.{at_line, read_lines, explained_verdict}
use Rattle.verdict_terms.proofs.InstanceLines.{no_result, at_line_ok}
use Rattle.answer_terms.specs.Answers.{Lines}
use Rattle.answer_terms.specs.Explained.{step_lines, explained_lines, explained_text}
use Rattle.answer_terms.specs.Own.{OwnExplanationsAreVerified}
use Rattle.answer_terms.proofs.Filled.{AreFilled, filled_append, filled_instance}
use Rattle.answer_terms.proofs.OwnWritten.{internal_bounded}
use Rattle.answer_terms.proofs.StepsWritten.{HaveStepLines, steps_filled, explained_written}

-- a line of these words
abbrev line_with : List (List ℕ) → Line
line_with words = record { bad = false; count = length words; words = words }

line_read : (stage next : ExplainedStage) (n : ℕ) (words : List (List ℕ)) (lines : List (List ℕ)) → AreWords words
    → stage_after stage (line_with words) ≡ Ok next
    → read_lines stage n (spaced words ∷ lines) ≡ read_lines next (n + 1) lines
line_read stage next n words lines plain e =
    ap (λ l. at_line (n + 1) (stage_after stage l) >>= λ s. read_lines s (n + 1) lines) (line_spaced words plain)
    ∙ ap (λ r. at_line (n + 1) r >>= λ s. read_lines s (n + 1) lines) e

-- ---- the lines of the instance

-- a line of the instance is taken as one
line_added : (parts more : Parts) (words : List (List ℕ)) → is_none words ≡ false
    → add_line parts (line_with words) ≡ Ok more
    → stage_after (Reading parts) (line_with words) ≡ Ok (Reading more)
line_added parts more [] some e = absurd (cc (some))
line_added parts more (w ∷ ws) some e =
    ap (λ b. reading_line b parts (line_with (w ∷ ws))) (no_result parts more (w ∷ ws) e)
    ∙ ap (λ r. text_fault r >>= λ m. Ok (Reading m)) e

-- the parts behind the lines of an instance
record IsDescribed (instance : PlainInstance) (parts : Parts) (n : ℕ) (lines rest : List (List ℕ)) : Type 0 where
  more : Parts
  m : ℕ
  read : read_lines (Reading parts) n (lines ++ rest) ≡ read_lines (Reading more) m rest
  gives : end_of more 0 ≡ Ok instance

described : (instance : PlainInstance) (lines : Lines) (parts : Parts) (n k : ℕ) (rest : List (List ℕ))
    → AreFilled lines
    → read_instance_lines parts k (map spaced lines) ≡ Ok instance
    → IsDescribed instance parts n (map spaced lines) rest
described instance [] parts n k rest filled e =
    record { more = parts; m = n; read = refl; gives = any_end parts k 0 instance e }
described instance (words ∷ lines) parts n k rest filled e =
    let b = bind_ok (on_line (k + 1) (add_line parts (line_of (spaced words))))
    (λ more. read_instance_lines more (k + 1) (map spaced lines)) instance e in
    let a : add_line parts (line_with words) ≡ Ok b.0 =
    ap (add_line parts) (sym (line_spaced words filled.0))
    ∙ at_line_ok (k + 1) (add_line parts (line_of (spaced words))) b.0 b.1 in
    let d = described instance lines b.0 (n + 1) (k + 1) rest filled.2 b.2 in
    record {
      more = d.more;
      m = d.m;
      read = line_read (Reading parts) (Reading b.0) n words (map spaced lines ++ rest) filled.0
          (line_added parts b.0 words filled.1 a) ∙ d.read;
      gives = d.gives;
    }

-- an instance that is written is read from its lines
instance_read : (instance : PlainInstance) → IsInstance instance
    → read_instance_lines no_parts 0 (map spaced (instance_words instance)) ≡ Ok instance
unfolding text_instance instance_text
instance_read instance limits =
    ap (read_instance_lines no_parts 0)
    (sym (lines_spaced (instance_words instance)
    (filled_are (instance_words instance) (filled_instance instance limits))))
    ∙ read_back instance limits
  where
    filled_are : (lines : Lines) → AreFilled lines → AreLines lines
    filled_are [] h = tt
    filled_are (words ∷ lines) h = (h.0, filled_are lines h.2)

-- ---- the lines of the tree

-- `end` is no step
end_is_none : (d : ℕ) → step_of d (codes "end" ∷ []) ≡ None
unfolding step_of same_bytes
end_is_none d = refl

not_end : (d : ℕ) (words : List (List ℕ)) (s : PlainStep) → step_of d words ≡ Some s
    → is_word (codes "end") words ≡ false
not_end d words s e = go (is_word (codes "end") words) refl
  where
    go : (b : Bool) → is_word (codes "end") words ≡ b → is_word (codes "end") words ≡ false
    go false f = f
    go true f = absurd (let n : ◌≡◌ {A = Option PlainStep} None (Some s) = sym
        (ap (step_of d) (is_word_ok (codes "end") words f) ∙ end_is_none d) ∙ e in cc (n))

step_read : (instance : PlainInstance) (node : AuditNode) (nodes left : List AuditNode) (words : List (List ℕ))
    (s : PlainStep) → is_none words ≡ false → step_of (dims instance) words ≡ Some s
    → audited_after instance (node ∷ nodes) s ≡ Ok left
    → stage_after (Explaining instance (node ∷ nodes)) (line_with words) ≡ Ok (grown instance left)
step_read instance node nodes left [] s some is after = absurd (cc (some))
step_read instance node nodes left (w ∷ ws) s some is after =
    ap (λ b. tree_step b (step_of (dims instance) (w ∷ ws)) >>= λ t. coded (audited_after instance (node ∷ nodes) t)
    >>= λ l. Ok (grown instance l)) (not_end (dims instance) (w ∷ ws) s is)
    ∙ ap (λ o. tree_step false o >>= λ t. coded (audited_after instance (node ∷ nodes) t)
    >>= λ l. Ok (grown instance l)) is
    ∙ ap (λ r. coded r >>= λ l. Ok (grown instance l)) after

-- `end` behind the whole tree
end_read : (instance : PlainInstance) (n : ℕ) → read_lines (Ending instance) n (spaced (codes "end" ∷ []) ∷ [])
    ≡ Ok instance
unfolding same_bytes
end_read instance n = line_read (Ending instance) (Ended instance) n (codes "end" ∷ []) [] (omega arith, refl, tt) refl

-- where the tree is whole, no line of it is left
tree_read : (instance : PlainInstance) (steps : List PlainStep) (nodes : List AuditNode) (n : ℕ)
    → HaveStepLines (dims instance) steps → AreFilled (step_lines steps)
    → audited_after_all instance nodes steps ≡ Ok []
    → read_lines (grown instance nodes) n (map spaced (step_lines steps) ++ spaced (codes "end" ∷ []) ∷ [])
    ≡ Ok instance
tree_read instance [] [] n have filled e = end_read instance n
tree_read instance [] (node ∷ nodes) n have filled e = absurd (cc (e))
tree_read instance (s ∷ steps) [] n have filled e = absurd (cc (e))
tree_read instance (s ∷ steps) (node ∷ nodes) n have filled e =
    let b = bind_ok (audited_after instance (node ∷ nodes) s) (λ left. audited_after_all instance left steps) [] e in
    line_read (Explaining instance (node ∷ nodes)) (grown instance b.0) n (step_words s)
    (map spaced (step_lines steps) ++ spaced (codes "end" ∷ []) ∷ []) filled.0
    (step_read instance node nodes b.0 (step_words s) s filled.1 (steps_are_read_back (dims instance) s have.0) b.1)
    ∙ tree_read instance steps b.0 (n + 1) have.1 filled.2 b.2

-- ---- the whole

-- the result line begins the tree
result_read : (instance : PlainInstance) (parts : Parts) (n : ℕ) (lines : List (List ℕ)) → end_of parts 0 ≡ Ok instance
    → read_lines (Reading parts) n (spaced (codes "result" ∷ codes "no" ∷ []) ∷ lines)
    ≡ read_lines (begun instance) (n + 1) lines
unfolding same_bytes
result_read instance parts n lines e =
    line_read (Reading parts) (begun instance) n (codes "result" ∷ codes "no" ∷ []) lines
    (omega arith, refl, (omega arith, refl, tt))
    (ap (λ r. end_of_parts r >>= λ i. require (are_two (codes "result") (codes "no") (codes "result" ∷ codes "no" ∷ []))
    form (Ok (begun i))) e)

pub own_explained : OwnExplanationsAreVerified
unfolding explained_verdict explained_text same_bytes
own_explained instance steps limits explains = record { kind = kind; verified = verified }
  where
    have : HaveStepLines (dims instance) steps
    have = explained_written instance (internal_bounded instance (written_internal instance limits)) explains

    filled : AreFilled (step_lines steps)
    filled = steps_filled (dims instance) steps have

    tail : Lines
    tail = (codes "result" ∷ codes "no" ∷ []) ∷ (step_lines steps ++ (codes "end" ∷ []) ∷ [])

    lines_are : (lines : Lines) → AreFilled lines → AreLines lines
    lines_are [] h = tt
    lines_are (words ∷ lines) h = (h.0, lines_are lines h.2)

    tail_filled : AreFilled tail
    tail_filled = (
      (omega arith, refl, (omega arith, refl, tt)),
      refl,
      filled_append (step_lines steps) ((codes "end" ∷ []) ∷ []) filled ((omega arith, refl, tt), refl, tt),
    )

    all : AreLines (explained_lines instance steps)
    all = (
      (omega arith, refl, (omega arith, refl, tt)),
      lines_are (instance_words instance ++ tail)
          (filled_append (instance_words instance) tail (filled_instance instance limits) tail_filled),
    )

    d : IsDescribed instance no_parts 1 (map spaced (instance_words instance)) (map spaced tail)
    d = described instance (instance_words instance) no_parts 1 0 (map spaced tail) (filled_instance instance limits)
        (instance_read instance limits)

    verified : read_lines Heading 0 (text_lines (lines_text (explained_lines instance steps))) ≡ Ok instance
    verified =
        ap (read_lines Heading 0) (lines_spaced (explained_lines instance steps) all)
        ∙ line_read Heading (Reading no_parts) 0 (codes "explained" ∷ codes "fit" ∷ [])
        (map spaced (instance_words instance ++ tail)) (omega arith, refl, (omega arith, refl, tt)) refl
        ∙ ap (read_lines (Reading no_parts) 1) (map-append spaced (instance_words instance) tail)
        ∙ d.read ∙ result_read instance d.more d.m (map spaced (step_lines steps ++ (codes "end" ∷ []) ∷ [])) d.gives
        ∙ ap (read_lines (begun instance) (d.m + 1)) (map-append spaced (step_lines steps) ((codes "end" ∷ []) ∷ []))
        ∙ tree_read instance steps (at_rest [] ∷ []) (d.m + 1) have filled
        (ap (audited_after_all instance (at_rest [] ∷ [])) (sym (append-nil steps))
        ∙ explained_fed instance explains [] [])

    kind : kind_of_lines (text_lines (lines_text (explained_lines instance steps))) ≡ ExplainedKind
    kind =
        ap kind_of_lines (lines_spaced (explained_lines instance steps) all)
        ∙ ap (λ l. elim (is_blank l) as (λ b. DocumentKind)
        [ true ↦ kind_of_lines (map spaced (instance_words instance ++ tail)) | false ↦ kind_of_line l ])
        (line_spaced (codes "explained" ∷ codes "fit" ∷ []) (omega arith, refl, (omega arith, refl, tt)))
