-- A verified text has the form of a document of a front.
use Rattle.std.proofs.Common.{◌≡◌, ℕ, ◌+◌, refl, sym, ap, ap₂, subst, ◌∙◌, arith, Bool, true, false, cond, not}
use Rattle.std.proofs.Common.{◌&&◌, List, [], ◌∷◌, ◌++◌, length, Option, Some, None, Result, Ok, Err, codes}
use Rattle.std.specs.Prelude.{◌==◌, nat_le}
use Rattle.std.specs.List.{list_any}
use Rattle.std.proofs.lemmas.Bool.{and_parts, eqb-true, leb-true}
use Rattle.packing_terms.specs.Packing.{PlainInstance, dims}
use Rattle.packing_terms.specs.Results.{◌>>=◌}
use Rattle.text_terms.specs.Lines.{text_lines, line_of, content, is_bad, words_of, number_of, same_bytes}
use Rattle.text_terms.specs.Texts.{Parts, no_parts, add_line, at_end as end_of, at_line as on_line}
use Rattle.text_terms.specs.Texts.{read_lines as read_instance_lines}
use Rattle.text_terms.specs.Form.{AreClean, filled_lines, IsNumber, HasForm}
use Rattle.text_terms.proofs.FormRead.{filled_with}
use Rattle.text_terms.proofs.FormTold.{lines_have_form}
use Rattle.text_terms.proofs.FormNumbers.{word_is}
use Rattle.text_terms.proofs.FormLines.{clean_from}
use Rattle.verdict_terms.specs.declared.reason.Reason.{Reason}
use Rattle.verdict_terms.specs.Reasons.{form, range}
use Rattle.verdict_terms.specs.Numbers.{require, wanted, wanted_by}
use Rattle.verdict_terms.specs.Stages.{is_word, text_fault, end_of_parts}
use Rattle.verdict_terms.proofs.FormTold.{any_end, end_ok, fault_ok, filled_append, clean_append}
use Rattle.verdict_terms.proofs.Passed.{ok_is}
use Rattle.verdict_terms.specs.declared.front_answers.FrontReason.{FrontReason}
use Rattle.verdict_terms.specs.Lines.{PlainLine, FrontStage, front_line, is_whole_front, announced}
use Rattle.verdict_terms.proofs.Good.{AreGood, good_verdict}
use Rattle.verdict_terms.specs.FrontDocumentVerdicts.{FrontClaim, FrontRead, DocumentStage, Opening, Reading, Fronting, Ended}
use Rattle.verdict_terms.specs.FrontDocumentVerdicts.{most_points, claim_by, front_claim, front_result_line, line_named, told}
use Rattle.verdict_terms.specs.FrontDocumentVerdicts.{placed_in_range, named_line, early_reason, front_reading_line}
use Rattle.verdict_terms.specs.FrontDocumentVerdicts.{front_filled_line, front_stage_after, front_at_end, read_front_lines}
use Rattle.verdict_terms.specs.FrontDocumentVerdicts.{front_document_verdict}
use Rattle.verdict_terms.specs.FrontDocumentForm.{front_word, IsFrontResult, AreFrontLines, IsFrontDocument, FrontsHaveForm}
use Rattle.verdict_terms.proofs.Verified.{required, bound, IsTaken, taken}

-- ---- words

-- the word is this one
one_is : (key : List ℕ) (words : List (List ℕ)) → is_word key words ≡ true → words ≡ key ∷ []
one_is key [] e = absurd (cc (e))
one_is key (word ∷ []) e = ap (λ w. w ∷ []) (word_is word key e)
one_is key (word ∷ next ∷ words) e = absurd (cc (e))

-- a line that isn't blank comes before the others
line_first : (line : List ℕ) (lines : List (List ℕ)) (word : List ℕ) (words : List (List ℕ))
    → words_of (content line) ≡ word ∷ words
    → filled_lines (line ∷ lines) ≡ (word ∷ words) ∷ filled_lines lines
line_first line lines word words is = ap (λ ws. filled_with ws lines) is

blank_first : (line : List ℕ) (lines : List (List ℕ)) → words_of (content line) ≡ []
    → filled_lines (line ∷ lines) ≡ filled_lines lines
blank_first line lines is = ap (λ ws. filled_with ws lines) is

-- ---- the result line

claim_is : (complete : Bool) (key word : List ℕ) (claim : FrontClaim) → key ≡ front_word complete
    → claim_by complete word ≡ Ok claim → IsFrontResult claim (key ∷ word ∷ [])
claim_is complete key word claim is e = go (number_of word) refl e
  where
    go : (o : Option ℕ) → number_of word ≡ o
        → (wanted_by o >>= λ n. require (nat_le n most_points) range
        (Ok (record { complete = complete; points = n }))) ≡ Ok claim
        → IsFrontResult claim (key ∷ word ∷ [])
    go None is_number k = absurd (cc (k))
    go (Some n) is_number k =
        let r = required (nat_le n most_points) range (Ok (record { complete = complete; points = n })) claim k in
        let same : record { complete = complete; points = n } ≡ claim = cc (r.1) in
        subst (λ (c : FrontClaim). IsFrontResult c (key ∷ word ∷ [])) same (record {
          number = word;
          are = ap (λ w. w ∷ word ∷ []) is;
          is_number = record { number = is_number; least = omega arith; most = leb-true n most_points r.0 };
        })

result_is : (words : List (List ℕ)) (claim : FrontClaim) → front_claim words ≡ Ok claim → IsFrontResult claim words
result_is [] claim e = absurd (cc (e))
result_is (key ∷ []) claim e = absurd (cc (e))
result_is (key ∷ word ∷ more ∷ words) claim e = absurd (cc (e))
result_is (key ∷ word ∷ []) claim e =
    go (same_bytes key (codes "front")) (same_bytes key (codes "partial")) refl refl e
  where
    go : (a b : Bool) → same_bytes key (codes "front") ≡ a → same_bytes key (codes "partial") ≡ b
        → cond a (claim_by true word) (cond b (claim_by false word) (Err form)) ≡ Ok claim
        → IsFrontResult claim (key ∷ word ∷ [])
    go true b p q k = claim_is true key word claim (word_is key (codes "front") p) k
    go false true p q k = claim_is false key word claim (word_is key (codes "partial") q) k
    go false false p q k = absurd (cc (k))

module _ (r : FrontRead) where
  -- ---- the form of the lines behind each stage

  -- good lines from this stage on, and `end`
  record IsBody (instance : PlainInstance) (claim : FrontClaim) (s : FrontStage) (lines : List (List ℕ)) :
      Type 0 where
    pub body : List (List (List ℕ))
    pub named : List PlainLine
    pub clean : AreClean lines
    pub are : filled_lines lines ≡ body ++ (codes "end" ∷ []) ∷ []
    pub are_lines : AreFrontLines body named
    pub good : AreGood instance claim.complete s named

  -- lines that add to the parts until they are the instance, the result line, and a body
  record IsRead (parts : Parts) (lines : List (List ℕ)) : Type 0 where
    pub before : List (List ℕ)
    pub line : List ℕ
    pub behind : List (List ℕ)
    pub result : List (List ℕ)
    pub are : lines ≡ before ++ line ∷ behind
    pub reads : (n : ℕ) → read_instance_lines parts n before ≡ Ok r.instance
    pub plane : dims r.instance ≡ 2
    pub clean_line : list_any is_bad (content line) ≡ false
    pub words_are : words_of (content line) ≡ codes "result" ∷ result
    pub is_result : IsFrontResult r.claim result
    pub rest : IsBody r.instance r.claim (announced r.claim.points) behind

  -- the lines of a whole document
  record IsWhole (lines : List (List ℕ)) : Type 0 where
    pub written : List (List (List ℕ))
    pub result : List (List ℕ)
    pub body : List (List (List ℕ))
    pub named : List PlainLine
    pub clean : AreClean lines
    pub are : filled_lines lines
        ≡ (codes "front" ∷ [])
        ∷ (written ++ (codes "result" ∷ result) ∷ (body ++ (codes "end" ∷ []) ∷ []))
    pub is_instance : HasForm written r.instance
    pub plane : dims r.instance ≡ 2
    pub is_result : IsFrontResult r.claim result
    pub are_lines : AreFrontLines body named
    pub good : AreGood r.instance r.claim.complete (announced r.claim.points) named

  abbrev read_of : PlainInstance → FrontClaim → FrontRead
  read_of instance claim = record { instance = instance; claim = claim }

  abbrev IsBehind : DocumentStage → List (List ℕ) → Type 0
  IsBehind Opening lines = IsWhole lines
  IsBehind (Reading parts) lines = IsRead parts lines
  IsBehind (Fronting instance claim s) lines = (read_of instance claim ≡ r) × IsBody instance claim s lines
  IsBehind (Ended instance claim) lines =
      (read_of instance claim ≡ r) × AreClean lines × (filled_lines lines ≡ [])

  -- ---- a blank line

  blank_kept : (stage : DocumentStage) (line : List ℕ) (lines : List (List ℕ))
      → list_any is_bad (content line) ≡ false → words_of (content line) ≡ []
      → IsBehind stage lines → IsBehind stage (line ∷ lines)
  blank_kept Opening line lines good is h = record {
    written = h.written;
    result = h.result;
    body = h.body;
    named = h.named;
    clean = clean_from line lines good h.clean;
    are = blank_first line lines is ∙ h.are;
    is_instance = h.is_instance;
    plane = h.plane;
    is_result = h.is_result;
    are_lines = h.are_lines;
    good = h.good;
  }
  blank_kept (Reading parts) line lines good is h = record {
    before = line ∷ h.before;
    line = h.line;
    behind = h.behind;
    result = h.result;
    are = ap (λ ls. line ∷ ls) h.are;
    reads = λ k. ap (λ o. on_line (k + 1) o >>= λ m. read_instance_lines m (k + 1) h.before)
        (ap₂ (λ b ws. add_line parts (record { bad = b; count = length ws; words = ws })) good is)
        ∙ h.reads (k + 1);
    plane = h.plane;
    clean_line = h.clean_line;
    words_are = h.words_are;
    is_result = h.is_result;
    rest = h.rest;
  }
  blank_kept (Fronting instance claim s) line lines good is (same, h) = (
    same,
    record {
      body = h.body;
      named = h.named;
      clean = clean_from line lines good h.clean;
      are = blank_first line lines is ∙ h.are;
      are_lines = h.are_lines;
      good = h.good;
    },
  )
  blank_kept (Ended instance claim) line lines good is (same, clean, are) =
      (same, clean_from line lines good clean, blank_first line lines is ∙ are)

  -- ---- a line that isn't blank

  -- the heading
  headed : (line : List ℕ) (lines : List (List ℕ)) → list_any is_bad (content line) ≡ false
      → words_of (content line) ≡ codes "front" ∷ [] → IsRead no_parts lines → IsWhole (line ∷ lines)
  headed line lines good is h =
      let i = (lines_have_form h.before 0 r.instance).0 (h.reads 0) in
      let clean : AreClean lines = subst AreClean (sym h.are)
      (clean_append h.before (h.line ∷ h.behind) i.0 (clean_from h.line h.behind h.clean_line h.rest.clean)) in
      let filled : filled_lines lines ≡ filled_lines h.before ++ (codes "result" ∷ h.result)
      ∷ (h.rest.body ++ (codes "end" ∷ []) ∷ []) =
      ap filled_lines h.are ∙ filled_append h.before (h.line ∷ h.behind)
      ∙ ap (λ ls. filled_lines h.before ++ ls)
      (line_first h.line h.behind (codes "result") h.result h.words_are
      ∙ ap (λ ls. (codes "result" ∷ h.result) ∷ ls) h.rest.are) in
      record {
        written = filled_lines h.before;
        result = h.result;
        body = h.rest.body;
        named = h.rest.named;
        clean = clean_from line lines good clean;
        are = line_first line lines (codes "front") [] is ∙ ap (λ ls. (codes "front" ∷ []) ∷ ls) filled;
        is_instance = i.1;
        plane = h.plane;
        is_result = h.is_result;
        are_lines = h.rest.are_lines;
        good = h.rest.good;
      }

  -- a line of the instance
  added : (parts more : Parts) (line : List ℕ) (lines : List (List ℕ)) → add_line parts (line_of line) ≡ Ok more
      → IsRead more lines → IsRead parts (line ∷ lines)
  added parts more line lines adds h = record {
    before = line ∷ h.before;
    line = h.line;
    behind = h.behind;
    result = h.result;
    are = ap (λ ls. line ∷ ls) h.are;
    reads = λ k. ap (λ o. on_line (k + 1) o >>= λ m. read_instance_lines m (k + 1) h.before) adds ∙ h.reads (k + 1);
    plane = h.plane;
    clean_line = h.clean_line;
    words_are = h.words_are;
    is_result = h.is_result;
    rest = h.rest;
  }

  -- the result line
  resulted : (parts : Parts) (instance : PlainInstance) (claim : FrontClaim) (line : List ℕ) (lines : List (List ℕ))
      (words : List (List ℕ)) → list_any is_bad (content line) ≡ false
      → words_of (content line) ≡ codes "result" ∷ words → end_of parts 0 ≡ Ok instance → dims instance ≡ 2
      → IsFrontResult claim words → IsBehind (Fronting instance claim (announced claim.points)) lines
      → IsRead parts (line ∷ lines)
  resulted parts instance claim line lines words good is end two result (same, h) = record {
    before = [];
    line = line;
    behind = lines;
    result = words;
    are = refl;
    reads = λ k. any_end parts 0 k r.instance (end ∙ ap (λ (x : FrontRead). Ok x.instance) same);
    plane = subst (λ (x : FrontRead). dims x.instance ≡ 2) same two;
    clean_line = good;
    words_are = is;
    is_result = subst (λ (x : FrontRead). IsFrontResult x.claim words) same result;
    rest = subst (λ (x : FrontRead). IsBody x.instance x.claim (announced x.claim.points) lines) same h;
  }

  -- a line of a corner or a point
  named_has : (instance : PlainInstance) (claim : FrontClaim) (s : FrontStage) (next : DocumentStage)
      (line : List ℕ) (lines : List (List ℕ)) (w : List ℕ) (ws : List (List ℕ))
      → list_any is_bad (content line) ≡ false → words_of (content line) ≡ w ∷ ws
      → named_line instance claim s (line_named (w ∷ ws)) ≡ Ok next → IsBehind next lines
      → IsBehind (Fronting instance claim s) (line ∷ lines)
  named_has instance claim s next line lines w ws good is e h = by_line (line_named (w ∷ ws)) refl e
    where
      by_line : (o : Option PlainLine) → line_named (w ∷ ws) ≡ o → named_line instance claim s o ≡ Ok next
          → IsBehind (Fronting instance claim s) (line ∷ lines)
      by_line None names k = absurd (cc (k))
      by_line (Some named) names k =
          by_stage (front_line instance claim.complete s named) refl ((required _ _ _ _ k).1)
        where
          by_stage : (o : Result FrontStage FrontReason) → front_line instance claim.complete s named ≡ o
              → (told o >>= λ more. Ok (Fronting instance claim more)) ≡ Ok next
              → IsBehind (Fronting instance claim s) (line ∷ lines)
          by_stage (Err reason) step f = absurd (cc (f))
          by_stage (Ok more) step f =
              let same_stage : Fronting instance claim more ≡ next = cc (f) in
              let (same, b) = subst (λ (x : DocumentStage). IsBehind x lines) (sym same_stage) h in (
                same,
                record {
                  body = (w ∷ ws) ∷ b.body;
                  named = named ∷ b.named;
                  clean = clean_from line lines good b.clean;
                  are = line_first line lines w ws is ∙ ap (λ ls. (w ∷ ws) ∷ ls) b.are;
                  are_lines = (names, b.are_lines);
                  good = (more, step, b.good);
                },
              )

  filled_has : (stage next : DocumentStage) (line : List ℕ) (lines : List (List ℕ)) (w : List ℕ)
      (ws : List (List ℕ)) → list_any is_bad (content line) ≡ false → words_of (content line) ≡ w ∷ ws
      → front_filled_line stage (record { bad = false; count = length (w ∷ ws); words = w ∷ ws }) ≡ Ok next
      → IsBehind next lines → IsBehind stage (line ∷ lines)
  filled_has Opening next line lines w ws good is e h =
      let q = required (is_word (codes "front") (w ∷ ws)) form (Ok (Reading no_parts)) next e in
      let same : Reading no_parts ≡ next = cc (q.1) in
      headed line lines good (is ∙ one_is (codes "front") (w ∷ ws) q.0)
      (subst (λ (x : DocumentStage). IsBehind x lines) (sym same) h)
  filled_has (Reading parts) next line lines w ws good is e h = by_key (same_bytes w (codes "result")) refl e
    where
      by_key : (k : Bool) → same_bytes w (codes "result") ≡ k
          → front_reading_line k parts (record { bad = false; count = length (w ∷ ws); words = w ∷ ws }) ≡ Ok next
          → IsRead parts (line ∷ lines)
      by_key true key f =
          let i = bound (end_of_parts (end_of parts 0))
          (λ instance. require (dims instance == 2) form
          (front_claim ws >>= λ claim. Ok (Fronting instance claim (announced claim.points)))) next f in
          let q = required (dims i.0 == 2) form
          (front_claim ws >>= λ claim. Ok (Fronting i.0 claim (announced claim.points))) next i.2 in
          let k = bound (front_claim ws) (λ claim. Ok (Fronting i.0 claim (announced claim.points))) next q.1 in
          let same : Fronting i.0 k.0 (announced k.0.points) ≡ next = cc (k.2) in
          resulted parts i.0 k.0 line lines ws good (is ∙ ap (λ x. x ∷ ws) (word_is w (codes "result") key))
          (end_ok (end_of parts 0) i.0 i.1) (eqb-true _ _ q.0) (result_is ws k.0 k.1)
          (subst (λ (x : DocumentStage). IsBehind x lines) (sym same) h)
      by_key false key f =
          let m = bound (text_fault (add_line parts
          (record { bad = false; count = length (w ∷ ws); words = w ∷ ws })))
          (λ more. Ok (Reading more)) next f in
          let same : Reading m.0 ≡ next = cc (m.2) in
          added parts m.0 line lines
          (ap₂ (λ b us. add_line parts (record { bad = b; count = length us; words = us })) good is
          ∙ fault_ok _ m.0 m.1)
          (subst (λ (x : DocumentStage). IsBehind x lines) (sym same) h)
  filled_has (Fronting instance claim s) next line lines w ws good is e h =
      by_end (is_word (codes "end") (w ∷ ws)) refl e
    where
      by_end : (b : Bool) → is_word (codes "end") (w ∷ ws) ≡ b
          → cond b (require (is_whole_front claim.complete s) (early_reason s.part) (Ok (Ended instance claim)))
          (named_line instance claim s (line_named (w ∷ ws))) ≡ Ok next
          → IsBehind (Fronting instance claim s) (line ∷ lines)
      by_end true end k =
          let q = required _ _ _ _ k in
          let same_stage : Ended instance claim ≡ next = cc (q.1) in
          let (same, clean, are) = subst (λ (x : DocumentStage). IsBehind x lines) (sym same_stage) h in (
            same,
            record {
              body = [];
              named = [];
              clean = clean_from line lines good clean;
              are = line_first line lines w ws is ∙ ap₂ (λ k ls. k ∷ ls) (one_is (codes "end") (w ∷ ws) end) are;
              are_lines = tt;
              good = q.0;
            },
          )
      by_end false end k = named_has instance claim s next line lines w ws good is k h
  filled_has (Ended instance claim) next line lines w ws good is e h = absurd (cc (e))

  -- a bad byte is refused everywhere
  bad_refused : (stage next : DocumentStage) (words : List (List ℕ))
      → front_filled_line stage (record { bad = true; count = length words; words = words }) ≡ Ok next → ⊥
  bad_refused Opening next words e = absurd (cc (e))
  bad_refused (Reading parts) next words e = absurd (cc (e))
  bad_refused (Fronting instance claim s) next words e = absurd (cc (e))
  bad_refused (Ended instance claim) next words e = absurd (cc (e))

  line_has : (stage next : DocumentStage) (line : List ℕ) (lines : List (List ℕ))
      → front_stage_after stage (line_of line) ≡ Ok next → IsBehind next lines → IsBehind stage (line ∷ lines)
  line_has stage next line lines e h = by_parts (list_any is_bad (content line)) (words_of (content line)) refl refl e
    where
      by_parts : (b : Bool) (words : List (List ℕ)) → list_any is_bad (content line) ≡ b
          → words_of (content line) ≡ words
          → front_stage_after stage (record { bad = b; count = length words; words = words }) ≡ Ok next
          → IsBehind stage (line ∷ lines)
      by_parts true words bad is f = absurd (bad_refused stage next words f)
      by_parts false [] good is f =
          let same : stage ≡ next = cc (f) in
          blank_kept stage line lines good is (subst (λ (x : DocumentStage). IsBehind x lines) (sym same) h)
      by_parts false (w ∷ ws) good is f = filled_has stage next line lines w ws good is f h

  end_has : (stage : DocumentStage) (n : ℕ) → front_at_end stage n ≡ Ok r → IsBehind stage []
  end_has (Ended instance claim) n e = (cc (e), refl, refl)
  end_has Opening n e = absurd (cc (e))
  end_has (Reading parts) n e = absurd (cc (e))
  end_has (Fronting instance claim s) n e = absurd (cc (e))

  lines_have : (stage : DocumentStage) (n : ℕ) (lines : List (List ℕ)) → read_front_lines stage n lines ≡ Ok r
      → IsBehind stage lines
  lines_have stage n [] e = end_has stage n e
  lines_have stage n (line ∷ lines) e =
      let t = taken stage n line lines r e in
      line_has stage t.next line lines t.step (lines_have t.next (n + 1) lines t.rest)

pub fronts_have_form : FrontsHaveForm
unfolding front_document_verdict
fronts_have_form text r e =
    let h = lines_have r Opening 0 (text_lines text) e in
    record {
      written = h.written;
      result = h.result;
      body = h.body;
      lines = h.named;
      clean = h.clean;
      are = h.are;
      is_instance = h.is_instance;
      plane = h.plane;
      is_result = h.is_result;
      are_lines = h.are_lines;
      good = good_verdict r.instance r.claim.complete r.claim.points h.named h.good;
    }
