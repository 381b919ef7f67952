-- A verified document of `fit` that says no, read again: its instance and its tokens.
use Rattle.std.proofs.Common.{◌≡◌, ◌∙◌, ℕ, ◌+◌, ◌≤◌, refl, sym, ap, ap₂, subst, true, false}
use Rattle.std.proofs.Common.{cond, codes, List, [], ◌∷◌, ◌++◌, append_assoc, append-nil, None}
use Rattle.std.proofs.Common.{Result, Ok, Err}
use Rattle.std.specs.List.{list_any}
use Rattle.std.proofs.lemmas.Bool.{or_parts}
use Rattle.packing_terms.specs.Packing.{PlainInstance, dims}
use Rattle.packing_terms.specs.Tokens.{PlainToken}
use Rattle.text_terms.specs.declared.fault.TextFault.{TextFault}
use Rattle.text_terms.specs.Lines.{line_of, cut_line, cut_words, content, is_bad, words_of, same_bytes, text_lines}
use Rattle.text_terms.specs.Texts.{Parts, no_parts, add_line, at_line, at_end}
use Rattle.text_terms.specs.Texts.{read_lines as read_instance_lines, IsWithinLimits}
use Rattle.text_terms.specs.Form.{AreClean, filled_lines, HasForm}
use Rattle.text_terms.specs.Feeding.{new_lexer, lines_fed, numbered_lines}
use Rattle.text_terms.proofs.Cut.{line_cut}
use Rattle.text_terms.proofs.FormRead.{filled_with, heads, clean_parts}
use Rattle.text_terms.proofs.FormTold.{lines_have_form}
use Rattle.text_terms.proofs.Good.{good_start, line_good, bind_ok}
use Rattle.text_terms.proofs.LinesFed.{texts_are_lines}
use Rattle.text_terms.specs.declared.claim.Claim.TheVariants.{NotFitting}
use Rattle.text_terms.specs.Claims.{job_of, job_word}
use Rattle.text_terms.specs.TokenLines.{line_token, token_of}
use Rattle.text_terms.proofs.Cuts.{token_lines_are_told}
use Rattle.verdict_terms.specs.declared.heading.Heading.TheVariants.{Answer}
use Rattle.verdict_terms.specs.Documents.{document_verdict}
use Rattle.verdict_terms.specs.Form.{IsDocument, AreTokenLines}
use Rattle.verdict_terms.proofs.FormGiven.{split_at, clean_split, documents_have_form}
use Rattle.verdict_terms.proofs.FormTold.{any_end}
use Rattle.verdict_terms.proofs.InstanceLines.{no_result, at_line_ok, added_words}
use Rattle.document_audits.specs.Rereading.{says_result, Reread, described, describing_line, proving, headed}
use Rattle.document_audits.specs.Rereading.{with_token, reread_line, reread_lines}
use Rattle.document_audits.specs.Rereading.Reread.{Unheaded, Describing, Proving, Broken}
use Rattle.document_audits.specs.Refutations.{IsRefutationIn}
use Rattle.document_audits.proofs.Numbers.{cut_says}

-- lines as a lexer gives them, their numbers left out
abbrev reread_raw : Reread → List (List ℕ) → Reread
reread_raw at [] = at
reread_raw at (line ∷ lines) = reread_raw (reread_line at (cut_line (line_of line))) lines

raw_is : (at : Reread) (n : ℕ) (lines : List (List ℕ)) → reread_lines at (numbered_lines n lines) ≡ reread_raw at lines
raw_is at n [] = refl
raw_is at n (line ∷ lines) = raw_is (reread_line at (cut_line (line_of line))) (n + 1) lines

raw_append : (at : Reread) (xs ys : List (List ℕ)) → reread_raw at (xs ++ ys) ≡ reread_raw (reread_raw at xs) ys
raw_append at [] ys = refl
raw_append at (x ∷ xs) ys = raw_append (reread_line at (cut_line (line_of x))) xs ys

-- ---- the first line

blanks_left : (lines : List (List ℕ)) → filled_lines lines ≡ [] → reread_raw Unheaded lines ≡ Unheaded
blanks_left [] e = refl
blanks_left (line ∷ lines) e = by_words_of (words_of (content line)) refl e (λ f. blanks_left lines f)
  where
    by_words_of : (ws : List (List ℕ)) → words_of (content line) ≡ ws → filled_with ws lines ≡ []
        → (filled_lines lines ≡ [] → reread_raw Unheaded lines ≡ Unheaded)
        → reread_raw (headed (cut_words (words_of (content line)))) lines ≡ Unheaded
    by_words_of [] is e later = ap (λ ws. reread_raw (headed (cut_words ws)) lines) is ∙ later e
    by_words_of (w ∷ ws) is e later = absurd (cc (e))

-- ---- the lines of the instance

line_described : (parts more : Parts) (line : List ℕ) → IsWithinLimits parts → add_line parts (line_of line) ≡ Ok more
    → reread_line (Describing parts) (cut_line (line_of line)) ≡ Describing more
line_described parts more line well e =
    ap (λ b. describing_line b parts (cut_line (line_of line)))
    (cut_says (words_of (content line))
    ∙ no_result parts more (words_of (content line)) (added_words parts more line e))
    ∙ ap (λ (r : Result Parts ℕ). described r) (line_cut parts line well.few ∙ e)

-- the parts behind the lines of an instance
pub record IsDescribed (instance : PlainInstance) (at : Reread) : Type 0 where
  pub parts : Parts
  pub are : at ≡ Describing parts
  pub give : at_end parts 0 ≡ Ok instance

lines_described : (lines : List (List ℕ)) (parts : Parts) (n : ℕ) (instance : PlainInstance) → IsWithinLimits parts
    → read_instance_lines parts n lines ≡ Ok instance
    → IsDescribed instance (reread_raw (Describing parts) lines)
lines_described [] parts n instance well e = record { parts = parts; are = refl; give = any_end parts n 0 instance e }
lines_described (line ∷ lines) parts n instance well e =
    let b = bind_ok (at_line (n + 1) (add_line parts (line_of line))) (λ more. read_instance_lines more (n + 1) lines)
    instance e in
    let a = at_line_ok (n + 1) (add_line parts (line_of line)) b.0 b.1 in
    let later = lines_described lines b.0 (n + 1) instance (line_good parts b.0 (line_of line) well a) b.2 in
    record {
      parts = later.parts;
      are = ap (λ at. reread_raw at lines) (line_described parts b.0 line well a)
          ∙ later.are;
      give = later.give;
    }

-- the result line
result_read : (instance : PlainInstance) (at : Reread) (line : List ℕ) (words : List (List ℕ)) → IsDescribed instance at
    → words_of (content line) ≡ codes "result" ∷ words
    → reread_line at (cut_line (line_of line)) ≡ Proving instance []
unfolding same_bytes
result_read instance at line words d e =
    ap (λ s. reread_line s (cut_line (line_of line))) d.are
    ∙ ap (λ b. describing_line b d.parts (cut_line (line_of line)))
    (cut_says (words_of (content line)) ∙ ap says_result e ∙ says)
    ∙ ap (λ (r : Result PlainInstance TextFault). proving r) d.give
  where
    says : says_result (codes "result" ∷ words) ≡ true
    says = refl

-- ---- the tokens

end_is_none : (d : ℕ) → token_of d (codes "end" ∷ []) ≡ None
unfolding token_of same_bytes
end_is_none d = refl

none_is_none : (d : ℕ) → token_of d [] ≡ None
unfolding token_of
none_is_none d = refl

clean_token : (d : ℕ) (line : List ℕ) (words : List (List ℕ)) → d ≤ 4 → list_any is_bad (content line) ≡ false
    → words_of (content line) ≡ words → line_token d (cut_line (line_of line)) ≡ token_of d words
clean_token d line words few clean is =
    token_lines_are_told d few (line_of line) ∙ ap₂ (λ b ws. cond b None (token_of d ws)) clean is

no_tokens : (instance : PlainInstance) (acc : List PlainToken) (lines : List (List ℕ)) → dims instance ≤ 4
    → AreClean lines → filled_lines lines ≡ [] → reread_raw (Proving instance acc) lines ≡ Proving instance acc
no_tokens instance acc [] few clean e = refl
no_tokens instance acc (line ∷ lines) few clean e =
    let c = clean_parts line lines clean in
    by_words_of (words_of (content line)) refl e (λ f. no_tokens instance acc lines few c.1 f)
  where
    by_words_of : (ws : List (List ℕ)) → words_of (content line) ≡ ws → filled_with ws lines ≡ []
        → (filled_lines lines ≡ [] → reread_raw (Proving instance acc) lines ≡ Proving instance acc)
        → reread_raw (with_token instance acc (line_token (dims instance) (cut_line (line_of line)))) lines
        ≡ Proving instance acc
    by_words_of [] is e later =
        ap (λ t. reread_raw (with_token instance acc t) lines)
        (clean_token (dims instance) line [] few (clean_parts line lines clean).0 is
        ∙ none_is_none (dims instance)) ∙ later e
    by_words_of (w ∷ ws) is e later = absurd (cc (e))

tokens_read : (instance : PlainInstance) (acc tokens : List PlainToken) (body : List (List (List ℕ)))
    (lines : List (List ℕ)) → dims instance ≤ 4 → AreClean lines
    → filled_lines lines ≡ body ++ (codes "end" ∷ []) ∷ [] → AreTokenLines (dims instance) body tokens
    → reread_raw (Proving instance acc) lines ≡ Proving instance (acc ++ tokens)
tokens_read instance acc tokens [] [] few clean e are = absurd (cc (e))
tokens_read instance acc tokens (b ∷ body) [] few clean e are = absurd (cc (e))
tokens_read instance acc tokens body (line ∷ lines) few clean e are =
    let c = clean_parts line lines clean in
    by_words_of (words_of (content line)) refl body tokens e are
    (λ f. tokens_read instance acc tokens body lines few c.1 f are)
    (λ a ts bs f g. tokens_read instance a ts bs lines few c.1 f g)
    (λ f. no_tokens instance acc lines few c.1 f)
  where
    bad : list_any is_bad (content line) ≡ false
    bad = (clean_parts line lines clean).0

    by_words_of : (ws : List (List ℕ)) → words_of (content line) ≡ ws
        → (bs : List (List (List ℕ))) (ts : List PlainToken) → filled_with ws lines ≡ bs ++ (codes "end" ∷ []) ∷ []
        → AreTokenLines (dims instance) bs ts
        → (filled_lines lines ≡ body ++ (codes "end" ∷ []) ∷ []
        → reread_raw (Proving instance acc) lines ≡ Proving instance (acc ++ tokens))
        → ((a us : List PlainToken) (cs : List (List (List ℕ))) → filled_lines lines ≡ cs ++ (codes "end" ∷ []) ∷ []
        → AreTokenLines (dims instance) cs us → reread_raw (Proving instance a) lines ≡ Proving instance (a ++ us))
        → (filled_lines lines ≡ [] → reread_raw (Proving instance acc) lines ≡ Proving instance acc)
        → reread_raw (with_token instance acc (line_token (dims instance) (cut_line (line_of line)))) lines
        ≡ Proving instance (acc ++ ts)
    by_words_of [] is bs ts e are same more none =
        ap (λ t. reread_raw (with_token instance acc t) lines)
        (clean_token (dims instance) line [] few bad is ∙ none_is_none (dims instance)) ∙ more acc ts bs e are
    by_words_of (w ∷ ws) is [] [] e are same more none =
        let h = heads e in
        ap (λ t. reread_raw (with_token instance acc t) lines)
        (clean_token (dims instance) line (codes "end" ∷ []) few bad (is ∙ h.0)
        ∙ end_is_none (dims instance)) ∙ none h.1
        ∙ ap (Proving instance) (sym (append-nil acc))
    by_words_of (w ∷ ws) is [] (t ∷ ts) e are same more none = absurd are
    by_words_of (w ∷ ws) is (b ∷ bs) [] e are same more none = absurd are
    by_words_of (w ∷ ws) is (b ∷ bs) (t ∷ ts) e are same more none =
        let h = heads e in
        ap (λ x. reread_raw (with_token instance acc x) lines)
        (clean_token (dims instance) line b few bad (is ∙ h.0) ∙ are.0) ∙ more (acc ++ t ∷ []) ts bs h.1 are.1
        ∙ ap (Proving instance) (append_assoc acc (t ∷ []) ts)

-- ---- the whole

pub refutation_held : (text : List ℕ) (d : IsDocument text NotFitting)
    → reread_lines Unheaded (lines_fed new_lexer text) ≡ Proving d.instance d.backed.tokens
refutation_held text d =
    let s = split_at (text_lines text) [] (codes "answer" ∷ job_word (job_of NotFitting) ∷ [])
    (d.written ++ (codes "result" ∷ d.result) ∷ (d.backing ++ (codes "end" ∷ []) ∷ [])) d.are in
    let r = split_at s.after d.written (codes "result" ∷ d.result) (d.backing ++ (codes "end" ∷ []) ∷ []) s.back_is in
    let c_after = or_parts _ _ (clean_split s.before (s.line ∷ s.after) (subst AreClean s.are d.clean)).1 in
    let e = clean_split r.before (r.line ∷ r.after) (subst AreClean r.are c_after.1) in
    let reads = (lines_have_form r.before 0 d.instance).1
    (e.0, subst (λ ls. HasForm ls d.instance) (sym r.front_is) d.is_instance) in
    let few : dims d.instance ≤ 4 = d.is_instance.is_container.count.1 in
    ap (reread_lines Unheaded) (texts_are_lines text) ∙ raw_is Unheaded 0 (text_lines text)
    ∙ ap (reread_raw Unheaded) s.are ∙ raw_append Unheaded s.before (s.line ∷ s.after)
    ∙ ap (λ at. reread_raw at (s.line ∷ s.after)) (blanks_left s.before s.front_is)
    ∙ ap (λ ws. reread_raw (headed (cut_words ws)) s.after) s.words_are
    ∙ ap (reread_raw (Describing no_parts)) r.are ∙ raw_append (Describing no_parts) r.before (r.line ∷ r.after)
    ∙ ap (λ at. reread_raw at r.after)
    (result_read d.instance (reread_raw (Describing no_parts) r.before) r.line d.result
    (lines_described r.before no_parts 0 d.instance good_start reads) r.words_are)
    ∙ tokens_read d.instance [] d.backed.tokens d.backing r.after few (or_parts _ _ e.1).1 r.back_is d.backed.are_lines

pub document_of : (text : List ℕ) → document_verdict text ≡ Ok NotFitting → IsDocument text NotFitting
document_of text e = (documents_have_form Answer text NotFitting).0 e

-- ---- what the program holds

module _ (text : List ℕ) (e : document_verdict text ≡ Ok NotFitting) where
  abbrev at_last : Reread
  at_last = reread_lines Unheaded (lines_fed new_lexer text)

  held : at_last ≡ Proving (document_of text e).instance (document_of text e).backed.tokens
  held = refutation_held text (document_of text e)

  pub not_unheaded : Unheaded ≡ at_last → ⊥
  not_unheaded f = let n : ◌≡◌ {A = Reread} Unheaded
      (Proving (document_of text e).instance (document_of text e).backed.tokens) = f ∙ held in cc (n)

  pub not_broken : Broken ≡ at_last → ⊥
  not_broken f = let n : ◌≡◌ {A = Reread} Broken
      (Proving (document_of text e).instance (document_of text e).backed.tokens) = f ∙ held in cc (n)

  pub not_described : {E : Type 0} (r : Result Parts E) → described r ≡ at_last → ⊥
  not_described (Ok parts) f = let n : ◌≡◌ {A = Reread} (Describing parts)
      (Proving (document_of text e).instance (document_of text e).backed.tokens) = f ∙ held in cc (n)
  not_described (Err x) f = not_broken f

  pub refutation_is : (instance : PlainInstance) (tokens : List PlainToken) → Proving instance tokens ≡ at_last
      → IsRefutationIn text instance tokens
  refutation_is instance tokens f =
      let same : ◌≡◌ {A = Reread} (Proving (document_of text e).instance (document_of text e).backed.tokens)
      (Proving instance tokens) = sym (f ∙ held) in
      record { document = document_of text e; of = cc (same); by = cc (same) }
