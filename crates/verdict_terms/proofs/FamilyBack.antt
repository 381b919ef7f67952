-- The words of a token are read back as the token, and a line that is cut to its first 12 words,
-- each to its first 21 bytes, is the same token.
use Rattle.std.proofs.Common.{◌≡◌, ℕ, ◌≤◌, refl, ap, ap₂, ◌∙◌, arith, Bool, true, false, cond, List, []}
use Rattle.std.proofs.Common.{◌∷◌, map, length, Some, None, codes, nat_le}
use Rattle.std.specs.Prelude.{option_map}
use Rattle.std.specs.List.{AllByRecursion}
use Rattle.std.specs.Fmt.{decimal}
use Rattle.std.proofs.lemmas.Bool.{le-leb, leb-true}
use Rattle.packing_terms.specs.Tokens.{PlainToken}
use Rattle.packing_terms.specs.Tokens.PlainToken.{Apart, Order, Rules, TooLarge, Scales, Assign, Choose, SetRefuted}
use Rattle.packing_terms.specs.Tokens.PlainToken.{ValueShort, GlobalScales}
use Rattle.text_terms.specs.Lines.{same_bytes, cut_words}
use Rattle.text_terms.proofs.Cut.{same_front}
use Rattle.text_terms.proofs.Spelled.{number_decimal}
use Rattle.text_terms.specs.TokenLines.{most_parameter, at_most, parameter, parameters, in_front, token_of}
use Rattle.text_terms.specs.TokenLines.{token_words, IsParameter}
use Rattle.text_terms.proofs.TokensBack.{tokens_are_read_back}
use Rattle.text_terms.proofs.Cuts.{parameters_cut, token_cut}
use Rattle.verdict_terms.specs.FamilyRefutation.{Plain, Family}
use Rattle.verdict_terms.specs.FamilyLines.{most_joining, family_by, family_token_of}
use Rattle.verdict_terms.specs.FamilyLines.{FamilyTokensAreReadBack, FamilyLinesAreTold}

-- ---- read back

parameter_back : (n : ℕ) → IsParameter n → parameter (decimal n) ≡ Some n
parameter_back n h = ap (at_most most_parameter) (number_decimal n (omega (arith, h)))
    ∙ ap (λ b. cond b (Some n) None) (le-leb n most_parameter h)

parameters_back : (ns : List ℕ) → AllByRecursion (λ n. IsParameter n) ns → parameters (map decimal ns) ≡ Some ns
parameters_back [] h = refl
parameters_back (n ∷ ns) h = ap₂ (λ x xs. in_front x xs) (parameter_back n h.0) (parameters_back ns h.1)

family_back : (i : ℕ) (vs : List ℕ) → 1 ≤ length vs → length vs ≤ most_joining
    → family_by (Some (i ∷ vs)) ≡ Some (Family i vs)
family_back i [] some few = absurd (omega (arith, some))
family_back i (v ∷ vs) some few =
    ap (λ b. cond b (Some (Family i (v ∷ vs))) None) (le-leb (length (v ∷ vs)) most_joining few)

-- no plain token begins with `k`
plain_words : (d : ℕ) (t : PlainToken) → family_token_of d (token_words t)
    ≡ option_map (λ x. Plain x) (token_of d (token_words t))
unfolding family_token_of same_bytes
plain_words d (Apart i u v) = refl
plain_words d (Order i u v) = refl
plain_words d Rules = refl
plain_words d (TooLarge v i) = refl
plain_words d (Scales fs) = refl
plain_words d (Assign v) = refl
plain_words d (Choose v) = refl
plain_words d (SetRefuted None) = refl
plain_words d (SetRefuted (Some b)) = refl
plain_words d ValueShort = refl
plain_words d (GlobalScales fs) = refl

pub family_tokens_are_read_back : FamilyTokensAreReadBack
unfolding family_token_of same_bytes
family_tokens_are_read_back d (Plain t) h =
    plain_words d t ∙ ap (λ o. option_map (λ x. Plain x) o) (tokens_are_read_back d t h)
family_tokens_are_read_back d (Family i vs) h =
    ap family_by (parameters_back (i ∷ vs) (h.0, h.1)) ∙ family_back i vs h.2 h.3

-- ---- cut lines

-- more than ten numbers are no family's line
pub many_joining : (xs : List ℕ) → 11 ≤ length xs → family_by (Some xs) ≡ None
many_joining [] l = refl
many_joining (i ∷ []) l = refl
many_joining (i ∷ v ∷ vs) l = go (nat_le (length (v ∷ vs)) most_joining) refl
  where
    go : (b : Bool) → nat_le (length (v ∷ vs)) most_joining ≡ b
        → cond b (Some (Family i (v ∷ vs))) None ≡ None
    go false e = refl
    go true e = let few = leb-true (length (v ∷ vs)) most_joining e in absurd (omega (arith, few, l))

words_cut : (d : ℕ) (words : List (List ℕ)) → d ≤ 4 → family_token_of d (cut_words words) ≡ family_token_of d words
unfolding family_token_of
words_cut d [] few = refl
words_cut d (key ∷ words) few =
    rw (
      same_front 21 key (codes "k") (omega arith),
      parameters_cut 11 (omega arith) family_by refl many_joining words,
      token_cut d key words few,
    ) refl

pub family_lines_are_told : FamilyLinesAreTold
family_lines_are_told d few line = ap (λ t. cond line.bad None t) (words_cut d line.words few)
