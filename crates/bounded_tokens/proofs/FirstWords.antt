-- Token lines by their first word: none, `u`, `e`, or another one.
use Rattle.std.proofs.Common.{◌≡◌, ℕ, ◌≤◌, sym, ap, ◌∙◌, arith, refl, true, false, cond, List, [], ◌∷◌, length, drop, get_or}
use Rattle.std.proofs.Common.{None, codes}
use Rattle.std.specs.Prelude.{option_map}
use Rattle.text_terms.specs.Lines.{Line, same_bytes}
use Rattle.text_terms.specs.TokenLines.{token_of, line_token}
use Rattle.verdict_terms.specs.BoundedRefutation.{Plain}
use Rattle.verdict_terms.specs.BoundedLines.{priced_of, exchange_of, bounded_token_of, bounded_line_token}

-- a line without a bad byte is what its words are
calm_line : (d : ℕ) (line : Line) → line.bad ≡ false → bounded_line_token d line ≡ bounded_token_of d line.words
calm_line d line calm = ap (λ b. cond b None (bounded_token_of d line.words)) calm

no_words : (d : ℕ) (words : List (List ℕ)) → length words ≡ 0 → bounded_token_of d words ≡ None
unfolding bounded_token_of
no_words d [] none = refl
no_words d (word ∷ words) none = absurd (omega (arith, none))

priced_words : (d : ℕ) (words : List (List ℕ)) → 1 ≤ length words → same_bytes (get_or words 0 []) (codes "u") ≡ true
    → bounded_token_of d words ≡ priced_of d (drop 1 words)
unfolding bounded_token_of
priced_words d [] some first = absurd (omega (arith, some))
priced_words d (word ∷ words) some first = rw first refl

exchange_words : (d : ℕ) (words : List (List ℕ)) → 1 ≤ length words → same_bytes (get_or words 0 []) (codes "u") ≡ false
    → same_bytes (get_or words 0 []) (codes "e") ≡ true → bounded_token_of d words ≡ exchange_of (drop 1 words)
unfolding bounded_token_of
exchange_words d [] some first second = absurd (omega (arith, some))
exchange_words d (word ∷ words) some first second = rw (first, second) refl

plain_words : (d : ℕ) (words : List (List ℕ)) → 1 ≤ length words → same_bytes (get_or words 0 []) (codes "u") ≡ false
    → same_bytes (get_or words 0 []) (codes "e") ≡ false
    → bounded_token_of d words ≡ option_map (λ t. Plain t) (token_of d words)
unfolding bounded_token_of
plain_words d [] some first second = absurd (omega (arith, some))
plain_words d (word ∷ words) some first second = rw (first, second) refl

pub empty_line : (d : ℕ) (line : Line) → line.bad ≡ false → length line.words ≡ 0 → None ≡ bounded_line_token d line
empty_line d line calm none = sym (calm_line d line calm ∙ no_words d line.words none)

pub priced_line : (d : ℕ) (line : Line) → line.bad ≡ false → 1 ≤ length line.words
    → same_bytes (get_or line.words 0 []) (codes "u") ≡ true → priced_of d (drop 1 line.words) ≡ bounded_line_token d line
priced_line d line calm some first = sym (calm_line d line calm ∙ priced_words d line.words some first)

pub exchange_line : (d : ℕ) (line : Line) → line.bad ≡ false → 1 ≤ length line.words
    → same_bytes (get_or line.words 0 []) (codes "u") ≡ false → same_bytes (get_or line.words 0 []) (codes "e") ≡ true
    → exchange_of (drop 1 line.words) ≡ bounded_line_token d line
exchange_line d line calm some first second =
    sym (calm_line d line calm ∙ exchange_words d line.words some first second)

pub plain_line : (d : ℕ) (line : Line) → line.bad ≡ false → 1 ≤ length line.words
    → same_bytes (get_or line.words 0 []) (codes "u") ≡ false → same_bytes (get_or line.words 0 []) (codes "e") ≡ false
    → option_map (λ t. Plain t) (line_token d line) ≡ bounded_line_token d line
plain_line d line calm some first second =
    ap (λ b. option_map (λ t. Plain t) (cond b None (token_of d line.words))) calm
    ∙ sym (calm_line d line calm ∙ plain_words d line.words some first second)
