-- A verified text has the form of an explained document.
use Rattle.std.proofs.Common.{◌≡◌, ℕ, ◌+◌, refl, sym, ap, ap₂, subst, ◌∙◌, Bool, true, false, List, [], ◌∷◌}
use Rattle.std.proofs.Common.{◌++◌, length, Option, Some, None, Result, Ok, Err, codes}
use Rattle.std.specs.List.{list_any}
use Rattle.std.proofs.lemmas.Bool.{and_parts}
use Rattle.packing_terms.specs.Packing.{PlainInstance, dims}
use Rattle.packing_terms.specs.Results.{◌>>=◌}
use Rattle.text_terms.specs.Lines.{text_lines, line_of, content, is_bad, words_of, same_bytes}
use Rattle.text_terms.specs.Texts.{Parts, no_parts, add_line, at_end as end_of, at_line as on_line}
use Rattle.text_terms.specs.Texts.{read_lines as read_instance_lines}
use Rattle.text_terms.specs.Form.{AreClean, filled_lines, HasForm}
use Rattle.text_terms.proofs.FormRead.{filled_with}
use Rattle.text_terms.proofs.FormTold.{lines_have_form}
use Rattle.text_terms.proofs.Good.{bind_ok}
use Rattle.text_terms.proofs.FormNumbers.{word_is}
use Rattle.text_terms.proofs.FormLines.{clean_from}
use Rattle.verdict_terms.specs.Stages.{is_word}
use Rattle.verdict_terms.proofs.FormTold.{any_end, filled_append, clean_append}
use Rattle.verdict_terms.specs.Steps.{PlainStep}
use Rattle.verdict_terms.specs.StepLines.{step_of}
use Rattle.verdict_terms.specs.Explaining.{Explains}
use Rattle.verdict_terms.specs.ExplainedJudging.{AuditNode, at_rest}
use Rattle.verdict_terms.specs.Auditing.{audited_after, audited_after_all}
use Rattle.verdict_terms.proofs.Explained.{fed_explains}
use Rattle.verdict_terms.specs.declared.explained_reason.ExplainedReason.{ExplainedReason}
use Rattle.verdict_terms.specs.ExplainedStages.{ExplainedStage, Heading, Reading, Explaining, Ending, Ended, form, require}
use Rattle.verdict_terms.specs.ExplainedStages.{are_two, text_fault, end_of_parts, begun, reading_line, tree_step, coded}
use Rattle.verdict_terms.specs.ExplainedStages.{grown, late_by, filled_line, stage_after}
use Rattle.verdict_terms.specs.ExplainedDocuments.{at_line, at_end, read_lines, explained_verdict}
use Rattle.verdict_terms.specs.ExplainedForm.{AreStepLines, DocumentsHaveForm}
use Rattle.verdict_terms.proofs.ExplainedDocumentPassed.{ok_is, require_ok, fault_ok, coded_ok, end_ok}

-- ---- words

-- the words are these two
two_are : (key other : List ℕ) (words : List (List ℕ)) → are_two key other words ≡ true
    → words ≡ key ∷ other ∷ []
two_are key other [] e = absurd (cc (e))
two_are key other (word ∷ []) e = absurd (cc (e))
two_are key other (word ∷ next ∷ []) e =
    let a = and_parts _ _ e in ap₂ (λ w v. w ∷ v ∷ []) (word_is word key a.0) (word_is next other a.1)
two_are key other (word ∷ next ∷ more ∷ words) e = absurd (cc (e))

-- the word is this one
one_is : (key : List ℕ) (words : List (List ℕ)) → is_word key words ≡ true → words ≡ key ∷ []
one_is key [] e = absurd (cc (e))
one_is key (word ∷ []) e = ap (λ w. w ∷ []) (word_is word key e)
one_is key (word ∷ next ∷ words) e = absurd (cc (e))

-- a step is what the words name
step_named : (is_end : Bool) (o : Option PlainStep) (step : PlainStep) → tree_step is_end o ≡ Ok step → o ≡ Some step
step_named true o step e = absurd (cc (e))
step_named false None step e = absurd (cc (e))
step_named false (Some s) step e = ap Some (ok_is s step e)

-- a line that isn't blank comes before the others
line_first : (line : List ℕ) (lines : List (List ℕ)) (word : List ℕ) (words : List (List ℕ))
    → words_of (content line) ≡ word ∷ words
    → filled_lines (line ∷ lines) ≡ (word ∷ words) ∷ filled_lines lines
line_first line lines word words is = ap (λ ws. filled_with ws lines) is

blank_first : (line : List ℕ) (lines : List (List ℕ)) → words_of (content line) ≡ []
    → filled_lines (line ∷ lines) ≡ filled_lines lines
blank_first line lines is = ap (λ ws. filled_with ws lines) is

module _ (j : PlainInstance) where
  -- ---- the form of the lines behind each stage

  -- lines of steps that take these nodes away, and `end`
  record IsTree (i : PlainInstance) (nodes : List AuditNode) (lines : List (List ℕ)) : Type 0 where
    pub tree : List (List (List ℕ))
    pub steps : List PlainStep
    pub clean : AreClean lines
    pub are : filled_lines lines ≡ tree ++ (codes "end" ∷ []) ∷ []
    pub are_steps : AreStepLines (dims i) tree steps
    pub taken : audited_after_all i nodes steps ≡ Ok []

  -- lines that add to the parts until they are the instance, `result no`, and a tree
  record IsRead (parts : Parts) (lines : List (List ℕ)) : Type 0 where
    pub before : List (List ℕ)
    pub line : List ℕ
    pub behind : List (List ℕ)
    pub are : lines ≡ before ++ line ∷ behind
    pub reads : (n : ℕ) → read_instance_lines parts n before ≡ Ok j
    pub clean_line : list_any is_bad (content line) ≡ false
    pub words_are : words_of (content line) ≡ codes "result" ∷ codes "no" ∷ []
    pub rest : IsTree j (at_rest [] ∷ []) behind

  -- the lines of a whole document
  record IsWhole (lines : List (List ℕ)) : Type 0 where
    pub written : List (List (List ℕ))
    pub tree : List (List (List ℕ))
    pub steps : List PlainStep
    pub clean : AreClean lines
    pub are : filled_lines lines
        ≡ (codes "explained" ∷ codes "fit" ∷ [])
        ∷ (written ++ (codes "result" ∷ codes "no" ∷ []) ∷ (tree ++ (codes "end" ∷ []) ∷ []))
    pub is_instance : HasForm written j
    pub are_steps : AreStepLines (dims j) tree steps
    pub explained : Explains j [] steps

  abbrev IsBehind : ExplainedStage → List (List ℕ) → Type 0
  IsBehind Heading lines = IsWhole lines
  IsBehind (Reading parts) lines = IsRead parts lines
  IsBehind (Explaining i nodes) lines = (i ≡ j) × IsTree i nodes lines
  IsBehind (Ending i) lines = (i ≡ j) × AreClean lines × (filled_lines lines ≡ (codes "end" ∷ []) ∷ [])
  IsBehind (Ended i) lines = (i ≡ j) × AreClean lines × (filled_lines lines ≡ [])

  -- ---- a blank line

  blank_kept : (stage : ExplainedStage) (line : List ℕ) (lines : List (List ℕ))
      → list_any is_bad (content line) ≡ false → words_of (content line) ≡ []
      → IsBehind stage lines → IsBehind stage (line ∷ lines)
  blank_kept Heading line lines good is h = record {
    written = h.written;
    tree = h.tree;
    steps = h.steps;
    clean = clean_from line lines good h.clean;
    are = blank_first line lines is ∙ h.are;
    is_instance = h.is_instance;
    are_steps = h.are_steps;
    explained = h.explained;
  }
  blank_kept (Reading parts) line lines good is h = record {
    before = line ∷ h.before;
    line = h.line;
    behind = h.behind;
    are = ap (λ ls. line ∷ ls) h.are;
    reads = λ k. ap (λ r. on_line (k + 1) r >>= λ m. read_instance_lines m (k + 1) h.before)
        (ap₂ (λ b ws. add_line parts (record { bad = b; count = length ws; words = ws })) good is)
        ∙ h.reads (k + 1);
    clean_line = h.clean_line;
    words_are = h.words_are;
    rest = h.rest;
  }
  blank_kept (Explaining i nodes) line lines good is (same, h) = (
    same,
    record {
      tree = h.tree;
      steps = h.steps;
      clean = clean_from line lines good h.clean;
      are = blank_first line lines is ∙ h.are;
      are_steps = h.are_steps;
      taken = h.taken;
    },
  )
  blank_kept (Ending i) line lines good is (same, clean, are) =
      (same, clean_from line lines good clean, blank_first line lines is ∙ are)
  blank_kept (Ended i) line lines good is (same, clean, are) =
      (same, clean_from line lines good clean, blank_first line lines is ∙ are)

  -- ---- a line that isn't blank

  -- the heading
  headed : (line : List ℕ) (lines : List (List ℕ)) → list_any is_bad (content line) ≡ false
      → words_of (content line) ≡ codes "explained" ∷ codes "fit" ∷ [] → IsRead no_parts lines
      → IsWhole (line ∷ lines)
  headed line lines good is h =
      let i = (lines_have_form h.before 0 j).0 (h.reads 0) in
      let clean : AreClean lines = subst AreClean (sym h.are)
      (clean_append h.before (h.line ∷ h.behind) i.0 (clean_from h.line h.behind h.clean_line h.rest.clean)) in
      let filled : filled_lines lines ≡ filled_lines h.before ++ (codes "result" ∷ codes "no" ∷ [])
      ∷ (h.rest.tree ++ (codes "end" ∷ []) ∷ []) =
      ap filled_lines h.are ∙ filled_append h.before (h.line ∷ h.behind)
      ∙ ap (λ ls. filled_lines h.before ++ ls)
      (line_first h.line h.behind (codes "result") (codes "no" ∷ []) h.words_are
      ∙ ap (λ ls. (codes "result" ∷ codes "no" ∷ []) ∷ ls) h.rest.are) in
      record {
        written = filled_lines h.before;
        tree = h.rest.tree;
        steps = h.rest.steps;
        clean = clean_from line lines good clean;
        are = line_first line lines (codes "explained") (codes "fit" ∷ []) is
            ∙ ap (λ ls. (codes "explained" ∷ codes "fit" ∷ []) ∷ ls) filled;
        is_instance = i.1;
        are_steps = h.rest.are_steps;
        explained = fed_explains j [] h.rest.steps h.rest.taken;
      }

  -- a line of the instance
  added : (parts more : Parts) (line : List ℕ) (lines : List (List ℕ)) → add_line parts (line_of line) ≡ Ok more
      → IsRead more lines → IsRead parts (line ∷ lines)
  added parts more line lines adds h = record {
    before = line ∷ h.before;
    line = h.line;
    behind = h.behind;
    are = ap (λ ls. line ∷ ls) h.are;
    reads = λ k. ap (λ r. on_line (k + 1) r >>= λ m. read_instance_lines m (k + 1) h.before) adds ∙ h.reads (k + 1);
    clean_line = h.clean_line;
    words_are = h.words_are;
    rest = h.rest;
  }

  -- the result line
  resulted : (parts : Parts) (i : PlainInstance) (line : List ℕ) (lines : List (List ℕ))
      → list_any is_bad (content line) ≡ false → words_of (content line) ≡ codes "result" ∷ codes "no" ∷ []
      → end_of parts 0 ≡ Ok i → IsBehind (begun i) lines → IsRead parts (line ∷ lines)
  resulted parts i line lines good is end (same, h) = record {
    before = [];
    line = line;
    behind = lines;
    are = refl;
    reads = λ k. any_end parts 0 k j (end ∙ ap Ok same);
    clean_line = good;
    words_are = is;
    rest = subst (λ k. IsTree k (at_rest [] ∷ []) lines) same h;
  }

  -- a line of the tree
  stepped : (i : PlainInstance) (nodes left : List AuditNode) (step : PlainStep) (line : List ℕ)
      (lines : List (List ℕ)) (word : List ℕ) (words : List (List ℕ)) → list_any is_bad (content line) ≡ false
      → words_of (content line) ≡ word ∷ words → step_of (dims i) (word ∷ words) ≡ Some step
      → audited_after i nodes step ≡ Ok left → IsBehind (grown i left) lines
      → IsBehind (Explaining i nodes) (line ∷ lines)
  stepped i nodes [] step line lines word words good is names takes (same, clean, are) = (
    same,
    record {
      tree = (word ∷ words) ∷ [];
      steps = step ∷ [];
      clean = clean_from line lines good clean;
      are = line_first line lines word words is ∙ ap (λ ls. (word ∷ words) ∷ ls) are;
      are_steps = (names, tt);
      taken = ap (λ r. r >>= λ l. audited_after_all i l []) takes;
    },
  )
  stepped i nodes (n ∷ left) step line lines word words good is names takes (same, h) = (
    same,
    record {
      tree = (word ∷ words) ∷ h.tree;
      steps = step ∷ h.steps;
      clean = clean_from line lines good h.clean;
      are = line_first line lines word words is ∙ ap (λ ls. (word ∷ words) ∷ ls) h.are;
      are_steps = (names, h.are_steps);
      taken = ap (λ r. r >>= λ l. audited_after_all i l h.steps) takes ∙ h.taken;
    },
  )

  filled_has : (stage next : ExplainedStage) (line : List ℕ) (lines : List (List ℕ)) (w : List ℕ)
      (ws : List (List ℕ)) → list_any is_bad (content line) ≡ false → words_of (content line) ≡ w ∷ ws
      → filled_line stage (record { bad = false; count = length (w ∷ ws); words = w ∷ ws }) ≡ Ok next
      → IsBehind next lines → IsBehind stage (line ∷ lines)
  filled_has Heading next line lines w ws good is e h =
      let r = require_ok (are_two (codes "explained") (codes "fit") (w ∷ ws)) form (Ok (Reading no_parts)) next e in
      headed line lines good (is ∙ two_are (codes "explained") (codes "fit") (w ∷ ws) r.0)
      (subst (λ s. IsBehind s lines) (sym (ok_is (Reading no_parts) next r.1)) h)
  filled_has (Reading parts) next line lines w ws good is e h = by_key (same_bytes w (codes "result")) e
    where
      by_key : (k : Bool) → reading_line k parts (record { bad = false; count = length (w ∷ ws); words = w ∷ ws })
          ≡ Ok next → IsRead parts (line ∷ lines)
      by_key true f =
          let i = bind_ok (end_of_parts (end_of parts 0))
          (λ instance. require (are_two (codes "result") (codes "no") (w ∷ ws)) form (Ok (begun instance))) next f in
          let r = require_ok (are_two (codes "result") (codes "no") (w ∷ ws)) form (Ok (begun i.0)) next i.2 in
          resulted parts i.0 line lines good (is ∙ two_are (codes "result") (codes "no") (w ∷ ws) r.0)
          (end_ok (end_of parts 0) i.0 i.1)
          (subst (λ s. IsBehind s lines) (sym (ok_is (begun i.0) next r.1)) h)
      by_key false f =
          let m = bind_ok
          (text_fault (add_line parts (record { bad = false; count = length (w ∷ ws); words = w ∷ ws })))
          (λ more. Ok (Reading more)) next f in
          added parts m.0 line lines
          (ap₂ (λ b us. add_line parts (record { bad = b; count = length us; words = us })) good is
          ∙ fault_ok _ m.0 m.1)
          (subst (λ s. IsBehind s lines) (sym (ok_is (Reading m.0) next m.2)) h)
  filled_has (Explaining i nodes) next line lines w ws good is e h =
      let s = bind_ok (tree_step (is_word (codes "end") (w ∷ ws)) (step_of (dims i) (w ∷ ws)))
      (λ s. coded (audited_after i nodes s) >>= λ left. Ok (grown i left)) next e in
      let m = bind_ok (coded (audited_after i nodes s.0)) (λ left. Ok (grown i left)) next s.2 in
      stepped i nodes m.0 s.0 line lines w ws good is
      (step_named (is_word (codes "end") (w ∷ ws)) (step_of (dims i) (w ∷ ws)) s.0 s.1)
      (coded_ok (audited_after i nodes s.0) m.0 m.1)
      (subst (λ s. IsBehind s lines) (sym (ok_is (grown i m.0) next m.2)) h)
  filled_has (Ending i) next line lines w ws good is e h =
      let r = require_ok (is_word (codes "end") (w ∷ ws)) (late_by (step_of (dims i) (w ∷ ws))) (Ok (Ended i)) next e in
      let (same, clean, are) = subst (λ s. IsBehind s lines) (sym (ok_is (Ended i) next r.1)) h in
      let word : w ∷ ws ≡ codes "end" ∷ [] = one_is (codes "end") (w ∷ ws) r.0 in (
        same,
        clean_from line lines good clean,
        line_first line lines w ws is ∙ ap₂ (λ k ls. k ∷ ls) word are,
      )
  filled_has (Ended i) next line lines w ws good is e h = absurd (cc (e))

  -- a bad byte is refused everywhere
  bad_refused : (stage next : ExplainedStage) (words : List (List ℕ))
      → filled_line stage (record { bad = true; count = length words; words = words }) ≡ Ok next → ⊥
  bad_refused Heading next words e = absurd (cc (e))
  bad_refused (Reading parts) next words e = absurd (cc (e))
  bad_refused (Explaining i nodes) next words e = absurd (cc (e))
  bad_refused (Ending i) next words e = absurd (cc (e))
  bad_refused (Ended i) next words e = absurd (cc (e))

  line_has : (stage next : ExplainedStage) (line : List ℕ) (lines : List (List ℕ))
      → stage_after stage (line_of line) ≡ Ok next → IsBehind next lines → IsBehind stage (line ∷ lines)
  line_has stage next line lines e h = by_parts (list_any is_bad (content line)) (words_of (content line)) refl refl e
    where
      by_parts : (b : Bool) (words : List (List ℕ)) → list_any is_bad (content line) ≡ b
          → words_of (content line) ≡ words
          → stage_after stage (record { bad = b; count = length words; words = words }) ≡ Ok next
          → IsBehind stage (line ∷ lines)
      by_parts true words bad is f = absurd (bad_refused stage next words f)
      by_parts false [] good is f =
          blank_kept stage line lines good is (subst (λ s. IsBehind s lines) (sym (ok_is stage next f)) h)
      by_parts false (w ∷ ws) good is f = filled_has stage next line lines w ws good is f h

  end_has : (stage : ExplainedStage) (n : ℕ) → at_end stage n ≡ Ok j → IsBehind stage []
  end_has (Ended i) n e = (ok_is i j e, refl, refl)
  end_has Heading n e = absurd (cc (e))
  end_has (Reading parts) n e = absurd (cc (e))
  end_has (Explaining i nodes) n e = absurd (cc (e))
  end_has (Ending i) n e = absurd (cc (e))

  lines_have : (stage : ExplainedStage) (n : ℕ) (lines : List (List ℕ)) → read_lines stage n lines ≡ Ok j
      → IsBehind stage lines
  lines_have stage n [] e = end_has stage n e
  lines_have stage n (line ∷ lines) e =
      go (stage_after stage (line_of line)) refl e (λ next f. lines_have next (n + 1) lines f)
    where
      go : (r : Result ExplainedStage ExplainedReason) → stage_after stage (line_of line) ≡ r
          → (at_line (n + 1) r >>= λ next. read_lines next (n + 1) lines) ≡ Ok j
          → ((next : ExplainedStage) → read_lines next (n + 1) lines ≡ Ok j → IsBehind next lines)
          → IsBehind stage (line ∷ lines)
      go (Ok next) f g later = line_has stage next line lines f (later next g)
      go (Err reason) f g later = absurd (cc (g))

pub documents_have_form : DocumentsHaveForm
unfolding explained_verdict
documents_have_form text instance e =
    let h = lines_have instance Heading 0 (text_lines text) e in
    record {
      written = h.written;
      tree = h.tree;
      steps = h.steps;
      clean = h.clean;
      are = h.are;
      is_instance = h.is_instance;
      are_steps = h.are_steps;
      explained = h.explained;
    }
