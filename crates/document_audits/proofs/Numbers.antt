-- The number of the result line, by the lines as a lexer gives them.
use Rattle.std.proofs.Common.{◌≡◌, ◌∙◌, ℕ, zero, suc, ◌+◌, ◌<◌, ◌≤◌, refl, sym, ap, subst, arith, Bool, true, false}
use Rattle.std.proofs.Common.{cond, codes, List, [], ◌∷◌, drop, length, get_or}
use Rattle.std.proofs.lemmas.List.{drop_more, drop_all}
use Rattle.instance_text.specs.declared.lexer.LexStep.TheVariants.{More, Line}
use Rattle.instance_text.specs.Steps.{step_of}
use Rattle.text_terms.specs.Lines.{cut_words, content, words_of, text_lines, is_line_feed}
use Rattle.text_terms.specs.Feeding.{Lexer, new_lexer, NumberedLine, lines_fed, numbered_lines, told_now, feed, finish}
use Rattle.text_terms.proofs.Cut.{same_front}
use Rattle.text_terms.proofs.LinesFed.{texts_are_lines}
use Rattle.document_audits.specs.Rereading.{says_result}
use Rattle.document_audits.specs.Refutations.{one_further, number_if, result_number}

-- the number of the first result line, of lines as a lexer gives them
abbrev pub number_told : List NumberedLine → ℕ
number_told [] = 0
number_told (l ∷ ls) = cond (says_result l.line.words) l.number (number_told ls)

pub cut_says : (words : List (List ℕ)) → says_result (cut_words words) ≡ says_result words
cut_says [] = refl
cut_says (w ∷ ws) = same_front 21 w (codes "result") (omega arith)

-- the number of the line `k` lines behind line `n`, or zero where `k` is zero
abbrev behind : ℕ → ℕ → ℕ
behind n zero = zero
behind n (suc k) = n + suc k

behind_one : (n k : ℕ) → behind (n + 1) k ≡ behind n (one_further k)
behind_one n zero = refl
behind_one n (suc k) = omega arith

numbers_are : (n : ℕ) (lines : List (List ℕ)) → number_told (numbered_lines n lines) ≡ behind n (result_number lines)
numbers_are n [] = refl
numbers_are n (line ∷ lines) =
    ap (λ b. cond b (n + 1) (number_told (numbered_lines (n + 1) lines))) (cut_says (words_of (content line)))
    ∙ ap (λ k. cond (says_result (words_of (content line))) (n + 1) k)
    (numbers_are (n + 1) lines ∙ behind_one n (result_number lines))
    ∙ go (says_result (words_of (content line)))
  where
    go : (b : Bool) → cond b (n + 1) (behind n (one_further (result_number lines)))
        ≡ behind n (cond b 1 (one_further (result_number lines)))
    go true = refl
    go false = refl

from_start : (k : ℕ) → behind 0 k ≡ k
from_start zero = refl
from_start (suc k) = omega arith

pub number_is : (text : List ℕ) → number_told (lines_fed new_lexer text) ≡ result_number (text_lines text)
number_is text = ap number_told (texts_are_lines text) ∙ numbers_are 0 (text_lines text)
    ∙ from_start (result_number (text_lines text))

-- ---- the steps of the reading

is_line : (t : Bool) → Line ≡ step_of t → t ≡ true
is_line true e = refl
is_line false e = absurd (cc (e))

is_more : (t : Bool) → More ≡ step_of t → t ≡ false
is_more true e = absurd (cc (e))
is_more false e = refl

first_found : (b : ℕ) (s : Lexer) (rest : List ℕ) → is_line_feed b ≡ true → says_result (feed b s).held.words ≡ true
    → number_told (lines_fed s (b ∷ rest)) ≡ (feed b s).number
first_found b s rest feeds says =
    ap (λ t. number_told (cond t (told_now (feed b s) ∷ lines_fed (feed b s) rest) (lines_fed (feed b s) rest))) feeds
    ∙ ap (λ t. cond t (feed b s).number (number_told (lines_fed (feed b s) rest))) says

-- the line that ended now says so
pub found_at : (text : List ℕ) (i : ℕ) (s u : Lexer) (n : ℕ) → i < length text → u ≡ feed (get_or text i 0) s
    → Line ≡ step_of (is_line_feed (get_or text i 0)) → says_result u.held.words ≡ true
    → number_told (lines_fed s (drop i text)) ≡ n → u.number ≡ n
found_at text i s u n lt step line says h =
    let first : number_told (lines_fed s (get_or text i 0 ∷ drop (i + 1) text)) ≡ n =
    subst (λ rest. number_told (lines_fed s rest) ≡ n) (drop_more text i 0 lt) h in
    let said : says_result (feed (get_or text i 0) s).held.words ≡ true =
    subst (λ (v : Lexer). says_result v.held.words ≡ true) step says in
    ap (λ (v : Lexer). v.number) step
    ∙ (sym (first_found (get_or text i 0) s (drop (i + 1) text) (is_line _ line) said) ∙ first)

last_by : (s : Lexer) (t : Bool) → s.begun ≡ t
    → number_told (lines_fed s []) ≡ number_told (cond t (told_now (finish s) ∷ []) [])
last_by s t e = ap (λ b. number_told (cond b (told_now (finish s) ∷ []) [])) e

-- the last line is the only one left
pub found_last : (text : List ℕ) (i : ℕ) (s u : Lexer) (n : ℕ) → length text ≤ i → u ≡ finish s → Line ≡ step_of s.begun
    → number_told (lines_fed s (drop i text)) ≡ n → number_if (says_result u.held.words) u.number ≡ n
found_last text i s u n le step line h =
    ap (λ (v : Lexer). number_if (says_result v.held.words) v.number) step
    ∙ (sym (last_by s true (is_line _ line)) ∙ subst (λ rest. number_told (lines_fed s rest) ≡ n)
    (drop_all i text le) h)

-- no line is left
pub found_none : (text : List ℕ) (i : ℕ) (s : Lexer) (n : ℕ) → length text ≤ i → More ≡ step_of s.begun
    → number_told (lines_fed s (drop i text)) ≡ n → 0 ≡ n
found_none text i s n le more h =
    sym (last_by s false (is_more _ more)) ∙ subst (λ rest. number_told (lines_fed s rest) ≡ n) (drop_all i text le) h
