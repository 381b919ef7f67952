-- The words of a token are read back as the token, and a line that is cut to its first 12 words,
-- each to its first 21 bytes, is the same token. What plain tokens say of tuples says it of those of
-- priced leaves: the words behind `v` are the same functions.
use Rattle.std.proofs.Common.{◌≡◌, ℕ, ◌<◌, ◌≤◌, ◌⊎◌, inl, inr, refl, sym, ap, ap₂, ◌∙◌, arith, Bool, true}
use Rattle.std.proofs.Common.{false, cond, List, [], ◌∷◌, take, map, length, Option, Some, None, codes}
use Rattle.std.specs.Prelude.{◌==◌, option_map}
use Rattle.std.specs.List.{flat_map}
use Rattle.std.specs.Fmt.{decimal}
use Rattle.std.proofs.lemmas.Bool.{le-leb, ne_eqb, cases_lt}
use Rattle.std.proofs.lemmas.List.{take_all, length-map, length-take-le}
use Rattle.packing_terms.specs.declared.ScaleFn.{ScaleFn}
use Rattle.packing_terms.specs.Tokens.{PlainToken}
use Rattle.packing_terms.specs.Tokens.PlainToken.{Apart, Order, Rules, TooLarge, Scales, Assign, Choose, SetRefuted}
use Rattle.packing_terms.specs.Tokens.PlainToken.{ValueShort, GlobalScales}
use Rattle.text_terms.specs.Lines.{same_bytes, cut_words}
use Rattle.text_terms.proofs.Cut.{same_front, number_front}
use Rattle.text_terms.proofs.Spelled.{number_decimal}
use Rattle.text_terms.specs.TokenLines.{most_parameter, at_most, parameter, functions, tuple_of, token_of}
use Rattle.text_terms.specs.TokenLines.{token_words, function_words, IsParameter, IsWrittenTuple}
use Rattle.text_terms.proofs.TokensBack.{tokens_are_read_back}
use Rattle.text_terms.proofs.Cuts.{cut_rest, functions_many, token_cut}
use Rattle.verdict_terms.specs.BoundedRefutation.{BoundedToken, Plain, PricedOut, Exchange}
use Rattle.verdict_terms.specs.BoundedLines.{priced_by, priced_of, exchange_by, exchange_of, bounded_token_of}
use Rattle.verdict_terms.specs.BoundedLines.{BoundedTokensAreReadBack, BoundedLinesAreTold}

-- the priced leaf that has the tuple of a plain token
abbrev with_weights : ℕ → ℕ → Option PlainToken → Option BoundedToken
with_weights q p (Some (Scales fs)) = Some (PricedOut q p fs)
with_weights q p _ = None

weights_of_tuple : (d q p : ℕ) (o : Option (List ScaleFn))
    → with_weights q p (tuple_of d Scales o) ≡ priced_by d (Some q) (Some p) o
weights_of_tuple d q p None = refl
weights_of_tuple d q p (Some fs) = go (length fs == d)
  where
    go : (b : Bool) → with_weights q p (cond b (Some (Scales fs)) None) ≡ cond b (Some (PricedOut q p fs)) None
    go true = refl
    go false = refl

-- tuples that are the same for a plain token are the same for a priced leaf
same_tuple : (d : ℕ) (q p : Option ℕ) (o other : Option (List ScaleFn))
    → tuple_of d Scales o ≡ tuple_of d Scales other → priced_by d q p o ≡ priced_by d q p other
same_tuple d None p o other e = refl
same_tuple d (Some q) None o other e = refl
same_tuple d (Some q) (Some p) o other e =
    sym (weights_of_tuple d q p o) ∙ ap (with_weights q p) e ∙ weights_of_tuple d q p other

-- ---- read back

parameter_back : (n : ℕ) → IsParameter n → parameter (decimal n) ≡ Some n
parameter_back n h = ap (at_most most_parameter) (number_decimal n (omega (arith, h)))
    ∙ ap (λ b. cond b (Some n) None) (le-leb n most_parameter h)

tuple_back : (d : ℕ) (fs : List ScaleFn) → IsWrittenTuple d fs
    → tuple_of d Scales (functions (flat_map function_words fs)) ≡ Some (Scales fs)
unfolding token_of same_bytes
tuple_back d fs h = tokens_are_read_back d (Scales fs) h

priced_back : (d q p : ℕ) (fs : List ScaleFn) → IsParameter q → IsParameter p → IsWrittenTuple d fs
    → priced_of d (decimal q ∷ decimal p ∷ flat_map function_words fs) ≡ Some (PricedOut q p fs)
priced_back d q p fs h k w =
    ap₂ (λ x y. priced_by d x y (functions (flat_map function_words fs))) (parameter_back q h) (parameter_back p k)
    ∙ sym (weights_of_tuple d q p (functions (flat_map function_words fs)))
    ∙ ap (with_weights q p) (tuple_back d fs w)

exchange_back : (u v : ℕ) → IsParameter u → IsParameter v → exchange_of (decimal u ∷ decimal v ∷ []) ≡ Some (Exchange u v)
exchange_back u v h k = ap₂ exchange_by (parameter_back u h) (parameter_back v k)

-- no plain token begins with `u` or `e`
plain_words : (d : ℕ) (t : PlainToken) → bounded_token_of d (token_words t)
    ≡ option_map (λ x. Plain x) (token_of d (token_words t))
unfolding bounded_token_of same_bytes
plain_words d (Apart i u v) = refl
plain_words d (Order i u v) = refl
plain_words d Rules = refl
plain_words d (TooLarge v i) = refl
plain_words d (Scales fs) = refl
plain_words d (Assign v) = refl
plain_words d (Choose v) = refl
plain_words d (SetRefuted None) = refl
plain_words d (SetRefuted (Some b)) = refl
plain_words d ValueShort = refl
plain_words d (GlobalScales fs) = refl

pub bounded_tokens_are_read_back : BoundedTokensAreReadBack
unfolding bounded_token_of same_bytes
bounded_tokens_are_read_back d (Plain t) h =
    plain_words d t ∙ ap (λ o. option_map (λ x. Plain x) o) (tokens_are_read_back d t h)
bounded_tokens_are_read_back d (PricedOut q p fs) h = priced_back d q p fs h.0 h.1 h.2
bounded_tokens_are_read_back d (Exchange u v) h = exchange_back u v h.0 h.1

-- ---- cut lines

tuple_cut : (d : ℕ) (words : List (List ℕ)) → d ≤ 4
    → tuple_of d Scales (functions (cut_rest words)) ≡ tuple_of d Scales (functions words)
unfolding token_of same_bytes
tuple_cut d words few = token_cut d (codes "v") words few

-- nine words and more are no tuple of four functions at most
many_words : (d : ℕ) (words : List (List ℕ)) → d ≤ 4 → 9 ≤ length words → tuple_of d Scales (functions words) ≡ None
many_words d words few long = go (functions words) refl
  where
    go : (o : Option (List ScaleFn)) → functions words ≡ o → tuple_of d Scales o ≡ None
    go None e = refl
    go (Some fs) e =
        ap (λ b. cond b (Some (Scales fs)) None)
        (ne_eqb (length fs) d (λ f. let n = functions_many words fs e in omega (arith, n, long, f, few)))

-- so nine of the words behind the weights show whether they are a tuple
nine_words : (d : ℕ) (words : List (List ℕ)) → d ≤ 4
    → tuple_of d Scales (functions (take 9 (map (take 21) words))) ≡ tuple_of d Scales (functions words)
nine_words d words few = go (cases_lt 9 (length words))
  where
    count : length (map (take 21) words) ≡ length words
    count = length-map words (take 21)

    go : (9 < length words) ⊎ (length words ≤ 9)
        → tuple_of d Scales (functions (take 9 (map (take 21) words))) ≡ tuple_of d Scales (functions words)
    go (inl long) =
        many_words d (take 9 (map (take 21) words)) few
        (let n = length-take-le 9 (map (take 21) words) (omega (arith, count, long)) in omega (arith, n))
        ∙ sym (many_words d words few (omega (arith, long)))
    go (inr short) =
        ap (λ us. tuple_of d Scales (functions us)) (take_all 9 (map (take 21) words) (omega (arith, count, short))
        ∙ sym (take_all 11 (map (take 21) words) (omega (arith, count, short))))
        ∙ tuple_cut d words few

parameter_front : (word : List ℕ) → parameter (take 21 word) ≡ parameter word
parameter_front word = ap (at_most most_parameter) (number_front word)

priced_cut : (d : ℕ) (words : List (List ℕ)) → d ≤ 4 → priced_of d (cut_rest words) ≡ priced_of d words
priced_cut d [] few = refl
priced_cut d (q ∷ []) few = refl
priced_cut d (q ∷ p ∷ words) few =
    ap₂ (λ x y. priced_by d x y (functions (take 9 (map (take 21) words)))) (parameter_front q) (parameter_front p)
    ∙ same_tuple d (parameter q) (parameter p) (functions (take 9 (map (take 21) words))) (functions words)
    (nine_words d words few)

exchange_cut : (words : List (List ℕ)) → exchange_of (cut_rest words) ≡ exchange_of words
exchange_cut [] = refl
exchange_cut (u ∷ []) = refl
exchange_cut (u ∷ v ∷ []) = ap₂ exchange_by (parameter_front u) (parameter_front v)
exchange_cut (u ∷ v ∷ w ∷ words) = refl

words_cut : (d : ℕ) (words : List (List ℕ)) → d ≤ 4 → bounded_token_of d (cut_words words) ≡ bounded_token_of d words
unfolding bounded_token_of
words_cut d [] few = refl
words_cut d (key ∷ words) few =
    rw (
      same_front 21 key (codes "u") (omega arith),
      priced_cut d words few,
      same_front 21 key (codes "e") (omega arith),
      exchange_cut words,
      token_cut d key words few,
    ) refl

pub bounded_lines_are_told : BoundedLinesAreTold
bounded_lines_are_told d few line = ap (λ t. cond line.bad None t) (words_cut d line.words few)
