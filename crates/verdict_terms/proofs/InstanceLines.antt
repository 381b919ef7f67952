-- The lines of an instance are no result lines.
use Rattle.std.proofs.Common.{◌≡◌, ◌∙◌, ℕ, refl, sym, ap, Bool, true, false, cond, codes, List, [], ◌∷◌, Result, Ok}
use Rattle.std.proofs.Common.{Err}
use Rattle.std.specs.List.{list_any}
use Rattle.std.specs.Prelude.{◌==◌}
use Rattle.std.proofs.lemmas.Bool.{and_right}
use Rattle.text_terms.specs.Lines.{line_of, content, is_bad, words_of, same_bytes}
use Rattle.text_terms.specs.Texts.{Parts, add_line, by_words, at_line, kerf_line, first_word}
use Rattle.text_terms.specs.Codes.{unknown_word}
use Rattle.text_terms.proofs.FormNumbers.{word_is}

-- no instance line begins with `result`
result_refused : (parts : Parts) (ws : List (List ℕ)) → by_words parts (codes "result" ∷ ws) ≡ Err 1
unfolding same_bytes
result_refused parts ws = ap (λ b. cond b (kerf_line parts ws) (Err unknown_word))
    (and_right (parts.format == 2) false refl)

pub no_result : (parts more : Parts) (words : List (List ℕ)) → by_words parts words ≡ Ok more
    → same_bytes (first_word words) (codes "result") ≡ false
unfolding same_bytes
no_result parts more words e = go words (same_bytes (first_word words) (codes "result")) refl e
  where
    none : same_bytes [] (codes "result") ≡ false
    none = refl

    go : (ws : List (List ℕ)) (b : Bool) → same_bytes (first_word ws) (codes "result") ≡ b → by_words parts ws ≡ Ok more
        → same_bytes (first_word ws) (codes "result") ≡ false
    go ws false f e = f
    go [] true f e = absurd (let n : true ≡ false = sym f ∙ none in cc (n))
    go (w ∷ ws) true f e =
        absurd (let n : ◌≡◌ {A = Result Parts ℕ} (Err 1) (Ok more) = sym
        (ap (λ v. by_words parts (v ∷ ws)) (word_is w (codes "result") f) ∙ result_refused parts ws) ∙ e in cc (n))

pub at_line_ok : {A : Type 0} (n : ℕ) (r : Result A ℕ) (x : A) → at_line n r ≡ Ok x → r ≡ Ok x
at_line_ok n (Ok y) x e = let same : y ≡ x = cc (e) in ap Ok same
at_line_ok n (Err k) x e = absurd (cc (e))

-- a line that is added has no bad byte
pub added_words : (parts more : Parts) (line : List ℕ) → add_line parts (line_of line) ≡ Ok more
    → by_words parts (words_of (content line)) ≡ Ok more
added_words parts more line e = go (list_any is_bad (content line)) e
  where
    go : (b : Bool) → cond b (Err 8) (by_words parts (words_of (content line))) ≡ Ok more
        → by_words parts (words_of (content line)) ≡ Ok more
    go true e = absurd (cc (e))
    go false e = e
