-- How many words are held of a line, by their count.
use Rattle.std.proofs.Common.{◌≡◌, ℕ, ◌<◌, ◌≤◌, refl, false, List, [], ◌∷◌, length, arith}
use Rattle.instance_text.specs.Plain.{AreCounted}
use Rattle.text_terms.specs.Lines.{same_bytes}
use Rattle.text_terms.specs.Texts.{first_word}

pub counted : (n : ℕ) (words : List (List ℕ)) (count told : ℕ) → AreCounted words count → told ≡ count → told ≡ n
    → n < 12 → length words ≡ n
counted n words count told h e f small = let l = h.held in omega (arith, l, e, f, small)

pub uncounted : (n : ℕ) (words : List (List ℕ)) (count told : ℕ) → AreCounted words count → told ≡ count
    → (told ≡ n → ⊥) → n < 12 → length words ≡ n → ⊥
uncounted n words count told h e f small g = let l = h.held in f (omega (arith, l, e, g, small))

-- a line without words begins with no word
pub no_first : (words : List (List ℕ)) (key : List ℕ) → length words ≡ 0 → 1 ≤ length key
    → false ≡ same_bytes (first_word words) key
unfolding same_bytes
no_first [] [] e l = absurd (omega (arith, l))
no_first [] (b ∷ key) e l = refl
no_first (w ∷ words) key e l = absurd (omega (arith, e))
