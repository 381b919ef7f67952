-- Token lines by their first word: none, `k`, or another one.
use Rattle.std.proofs.Common.{◌≡◌, ℕ, ◌≤◌, sym, ap, ◌∙◌, arith, refl, true, false, cond, List, [], ◌∷◌, length, drop, get_or}
use Rattle.std.proofs.Common.{None, codes}
use Rattle.std.specs.Prelude.{option_map}
use Rattle.text_terms.specs.Lines.{Line, same_bytes}
use Rattle.text_terms.specs.TokenLines.{parameters, token_of, line_token}
use Rattle.verdict_terms.specs.FamilyRefutation.{Plain}
use Rattle.verdict_terms.specs.FamilyLines.{family_by, family_token_of, family_line_token}

-- a line without a bad byte is what its words are
calm_line : (d : ℕ) (line : Line) → line.bad ≡ false → family_line_token d line ≡ family_token_of d line.words
calm_line d line calm = ap (λ b. cond b None (family_token_of d line.words)) calm

no_words : (d : ℕ) (words : List (List ℕ)) → length words ≡ 0 → family_token_of d words ≡ None
unfolding family_token_of
no_words d [] none = refl
no_words d (word ∷ words) none = absurd (omega (arith, none))

family_words : (d : ℕ) (words : List (List ℕ)) → 1 ≤ length words → same_bytes (get_or words 0 []) (codes "k") ≡ true
    → family_token_of d words ≡ family_by (parameters (drop 1 words))
unfolding family_token_of
family_words d [] some first = absurd (omega (arith, some))
family_words d (word ∷ words) some first = rw first refl

plain_words : (d : ℕ) (words : List (List ℕ)) → 1 ≤ length words → same_bytes (get_or words 0 []) (codes "k") ≡ false
    → family_token_of d words ≡ option_map (λ t. Plain t) (token_of d words)
unfolding family_token_of
plain_words d [] some first = absurd (omega (arith, some))
plain_words d (word ∷ words) some first = rw first refl

pub empty_line : (d : ℕ) (line : Line) → line.bad ≡ false → length line.words ≡ 0 → None ≡ family_line_token d line
empty_line d line calm none = sym (calm_line d line calm ∙ no_words d line.words none)

pub family_line : (d : ℕ) (line : Line) → line.bad ≡ false → 1 ≤ length line.words
    → same_bytes (get_or line.words 0 []) (codes "k") ≡ true
    → family_by (parameters (drop 1 line.words)) ≡ family_line_token d line
family_line d line calm some first = sym (calm_line d line calm ∙ family_words d line.words some first)

pub plain_line : (d : ℕ) (line : Line) → line.bad ≡ false → 1 ≤ length line.words
    → same_bytes (get_or line.words 0 []) (codes "k") ≡ false
    → option_map (λ t. Plain t) (line_token d line) ≡ family_line_token d line
plain_line d line calm some first =
    ap (λ b. option_map (λ t. Plain t) (cond b None (token_of d line.words))) calm
    ∙ sym (calm_line d line calm ∙ plain_words d line.words some first)
