-- A line that is cut to its first 12 words, each to its first 21 bytes, is the same token.
use Rattle.std.proofs.Common.{◌≡◌, ℕ, suc, ◌+◌, ◌*◌, ◌<◌, ◌≤◌, ◌⊎◌, inl, inr, refl, sym, ap, ap₂, ◌∙◌, arith, Bool}
use Rattle.std.proofs.Common.{true, false, cond, List, [], ◌∷◌, take, map, length, Option, Some, None, codes}
use Rattle.std.proofs.lemmas.Bool.{ne_eqb}
use Rattle.packing_terms.specs.declared.ScaleFn.{ScaleFn}
use Rattle.packing_terms.specs.declared.ScaleFn.TheVariants.{Id}
use Rattle.packing_terms.specs.Tokens.{PlainToken}
use Rattle.packing_terms.specs.Tokens.PlainToken.{Apart, Order, Rules, TooLarge, Scales, Assign, Choose, ValueShort}
use Rattle.packing_terms.specs.Tokens.PlainToken.{GlobalScales}
use Rattle.text_terms.specs.Lines.{cut_words, same_bytes}
use Rattle.text_terms.proofs.Cut.{same_front, number_front, count_cases}
use Rattle.text_terms.specs.TokenLines.{most_parameter, TokenLinesAreTold, at_most, parameter, in_front, parameters}
use Rattle.text_terms.specs.TokenLines.{named_function, functions, tuple_of, of_none, of_one, of_two, of_three}
use Rattle.text_terms.specs.TokenLines.{set_token, token_of}

-- the words behind the first, as they are cut
abbrev pub cut_rest : List (List ℕ) → List (List ℕ)
cut_rest words = take 11 (map (take 21) words)

-- what is the same for words cut to 21 bytes, and one thing for 11 words and more
pub cut_by : {B : Type 0} (f : List (List ℕ) → B) (r : B) (words : List (List ℕ)) → f (map (take 21) words) ≡ f words
    → ((us : List (List ℕ)) → 11 ≤ length us → f us ≡ r)
    → f (cut_rest words) ≡ f words
cut_by f r words same many = go (count_cases words)
  where
    go : (take 11 (map (take 21) words) ≡ map (take 21) words)
        ⊎ ((length (take 11 (map (take 21) words)) ≡ 11) × (11 < length words))
        → f (take 11 (map (take 21) words)) ≡ f words
    go (inl e) = ap f e ∙ same
    go (inr h) = many (take 11 (map (take 21) words)) (let n = h.0 in omega (arith, n))
        ∙ sym (many words (let n = h.1 in omega (arith, n)))

parameter_front : (word : List ℕ) → parameter (take 21 word) ≡ parameter word
parameter_front word = ap (at_most most_parameter) (number_front word)

parameters_front : (words : List (List ℕ)) → parameters (map (take 21) words) ≡ parameters words
parameters_front [] = refl
parameters_front (word ∷ words) = ap₂ (λ x xs. in_front x xs) (parameter_front word) (parameters_front words)

-- as many parameters as words
pub parameters_many : (words : List (List ℕ)) (xs : List ℕ) → parameters words ≡ Some xs → length xs ≡ length words
parameters_many [] xs e = let same : [] ≡ xs = cc (e) in ap length (sym same)
parameters_many (word ∷ words) xs e = go (parameter word) (parameters words) e (λ ys f. parameters_many words ys f) refl
  where
    go : (x : Option ℕ) (ys : Option (List ℕ)) → in_front x ys ≡ Some xs
        → ((zs : List ℕ) → parameters words ≡ Some zs → length zs ≡ length words) → parameters words ≡ ys
        → length xs ≡ suc (length words)
    go None ys f later is = absurd (cc (f))
    go (Some x) None f later is = absurd (cc (f))
    go (Some x) (Some ys) f later is = let same : x ∷ ys ≡ xs = cc (f) in ap length (sym same) ∙ ap suc (later ys is)

-- what takes no n parameters or more, at most eleven, takes no eleven
few_parameters : {A : Type 0} (n : ℕ) → n ≤ 11 → (f : Option (List ℕ) → Option A) → f None ≡ None
    → ((xs : List ℕ) → n ≤ length xs → f (Some xs) ≡ None) → (words : List (List ℕ)) → 11 ≤ length words
    → f (parameters words) ≡ None
few_parameters n few f none many words long = go (parameters words) refl
  where
    go : (o : Option (List ℕ)) → parameters words ≡ o → f o ≡ None
    go None e = none
    go (Some xs) e = many xs (let m = parameters_many words xs e in omega (arith, m, long, few))

pub parameters_cut : {A : Type 0} (n : ℕ) → n ≤ 11 → (f : Option (List ℕ) → Option A) → f None ≡ None
    → ((xs : List ℕ) → n ≤ length xs → f (Some xs) ≡ None) → (words : List (List ℕ))
    → f (parameters (cut_rest words)) ≡ f (parameters words)
parameters_cut n few f none many words =
    cut_by (λ us. f (parameters us)) None words (ap f (parameters_front words)) (few_parameters n few f none many)

many_none : (t : PlainToken) (xs : List ℕ) → 4 ≤ length xs → of_none t (Some xs) ≡ None
many_none t [] l = absurd (omega arith)
many_none t (x ∷ xs) l = refl

many_one : (make : ℕ → PlainToken) (xs : List ℕ) → 4 ≤ length xs → of_one make (Some xs) ≡ None
many_one make [] l = absurd (omega arith)
many_one make (x ∷ []) l = absurd (omega arith)
many_one make (x ∷ y ∷ xs) l = refl

many_two : (make : ℕ → ℕ → PlainToken) (xs : List ℕ) → 4 ≤ length xs → of_two make (Some xs) ≡ None
many_two make [] l = absurd (omega arith)
many_two make (x ∷ []) l = absurd (omega arith)
many_two make (x ∷ y ∷ []) l = absurd (omega arith)
many_two make (x ∷ y ∷ z ∷ xs) l = refl

many_three : (make : ℕ → ℕ → ℕ → PlainToken) (xs : List ℕ) → 4 ≤ length xs → of_three make (Some xs) ≡ None
many_three make [] l = absurd (omega arith)
many_three make (x ∷ []) l = absurd (omega arith)
many_three make (x ∷ y ∷ []) l = absurd (omega arith)
many_three make (x ∷ y ∷ z ∷ []) l = absurd (omega arith)
many_three make (x ∷ y ∷ z ∷ u ∷ xs) l = refl

many_set : (xs : List ℕ) → 4 ≤ length xs → set_token (Some xs) ≡ None
many_set [] l = absurd (omega arith)
many_set (x ∷ []) l = absurd (omega arith)
many_set (x ∷ y ∷ xs) l = refl

named_front : (name word : List ℕ) → named_function (take 21 name) (take 21 word) ≡ named_function name word
named_front name word =
    rw (
      same_front 21 name (codes "step") (omega arith),
      same_front 21 name (codes "cut") (omega arith),
      same_front 21 name (codes "count") (omega arith),
      parameter_front word,
    ) refl

-- the functions, by whether the first is `id`
abbrev by_id : Bool → Option ScaleFn → Option (List ScaleFn) → Option (List ScaleFn) → Option (List ScaleFn)
by_id b f one two = elim b as (λ x. Option (List ScaleFn)) [ true ↦ in_front (Some Id) one | false ↦ in_front f two ]

functions_front : (words : List (List ℕ)) → functions (map (take 21) words) ≡ functions words
functions_front [] = refl
functions_front (name ∷ []) = ap (λ b. cond b (Some (Id ∷ [])) None) (same_front 21 name (codes "id") (omega arith))
functions_front (name ∷ word ∷ words) =
    ap₂ (λ b f. by_id b f (functions (map (take 21) (word ∷ words))) (functions (map (take 21) words)))
    (same_front 21 name (codes "id") (omega arith)) (named_front name word)
    ∙ ap₂ (λ one two. by_id (same_bytes name (codes "id")) (named_function name word) one two)
    (functions_front (word ∷ words)) (functions_front words)

-- each function has at most two words
pub functions_many : (words : List (List ℕ)) (fs : List ScaleFn) → functions words ≡ Some fs
    → length words ≤ 2 * length fs
functions_many [] fs e = omega arith
functions_many (name ∷ []) fs e = go (same_bytes name (codes "id")) e
  where
    go : (b : Bool) → cond b (Some (Id ∷ [])) None ≡ Some fs → 1 ≤ 2 * length fs
    go true f = let same : Id ∷ [] ≡ fs = cc (f) in let n : length fs ≡ 1 = ap length (sym same) in omega (arith, n)
    go false f = absurd (cc (f))
functions_many (name ∷ word ∷ words) fs e =
    go (same_bytes name (codes "id")) e (λ gs f. functions_many (word ∷ words) gs f) (λ gs f. functions_many words gs f)
  where
    front_many : (x : Option ScaleFn) (ys : Option (List ScaleFn)) → in_front x ys ≡ Some fs → (k : ℕ)
        → ((gs : List ScaleFn) → ys ≡ Some gs → k ≤ 2 * length gs) → k + 2 ≤ 2 * length fs
    front_many None ys f k later = absurd (cc (f))
    front_many (Some x) None f k later = absurd (cc (f))
    front_many (Some x) (Some ys) f k later =
        let same : x ∷ ys ≡ fs = cc (f) in let n : length fs ≡ suc (length ys) = ap length (sym same) in let l =
        later ys refl in omega (arith, n, l)

    go : (b : Bool) → ◌≡◌ {A = Option (List ScaleFn)}
        (elim b [
          | true ↦ in_front (Some Id) (functions (word ∷ words))
          | false ↦
              in_front (named_function name word) (functions words)
        ]) (Some fs)
        → ((gs : List ScaleFn) → functions (word ∷ words) ≡ Some gs → length (word ∷ words) ≤ 2 * length gs)
        → ((gs : List ScaleFn) → functions words ≡ Some gs → length words ≤ 2 * length gs)
        → length (name ∷ word ∷ words) ≤ 2 * length fs
    go true f one two = let l = front_many (Some Id) (functions (word ∷ words)) f (length (word ∷ words)) one in
        omega (arith, l)
    go false f one two = let l = front_many (named_function name word) (functions words) f (length words) two in
        omega (arith, l)

tuple_cut : (d : ℕ) (make : List ScaleFn → PlainToken) (words : List (List ℕ)) → d ≤ 4
    → tuple_of d make (functions (cut_rest words)) ≡ tuple_of d make (functions words)
tuple_cut d make words few = cut_by (λ us. tuple_of d make (functions us)) None words
    (ap (tuple_of d make) (functions_front words)) many
  where
    by_functions : (us : List (List ℕ)) → 11 ≤ length us → (o : Option (List ScaleFn)) → functions us ≡ o
        → tuple_of d make o ≡ None
    by_functions us l None e = refl
    by_functions us l (Some fs) e =
        ap (λ b. cond b (Some (make fs)) None)
        (ne_eqb (length fs) d (λ f. let n = functions_many us fs e in omega (arith, n, l, f, few)))

    many : (us : List (List ℕ)) → 11 ≤ length us → tuple_of d make (functions us) ≡ None
    many us l = by_functions us l (functions us) refl

pub token_cut : (d : ℕ) (word : List ℕ) (words : List (List ℕ)) → d ≤ 4
    → token_of d (take 21 word ∷ cut_rest words) ≡ token_of d (word ∷ words)
unfolding token_of
token_cut d word words few =
    rw (
      same_front 21 word (codes "a") (omega arith),
      same_front 21 word (codes "d") (omega arith),
      same_front 21 word (codes "x") (omega arith),
      same_front 21 word (codes "t") (omega arith),
      same_front 21 word (codes "v") (omega arith),
      same_front 21 word (codes "b") (omega arith),
      same_front 21 word (codes "c") (omega arith),
      same_front 21 word (codes "s") (omega arith),
      same_front 21 word (codes "w") (omega arith),
      same_front 21 word (codes "g") (omega arith),
      parameters_cut 4 (omega arith) (of_three Apart) refl (many_three Apart) words,
      parameters_cut 4 (omega arith) (of_three Order) refl (many_three Order) words,
      parameters_cut 4 (omega arith) (of_none Rules) refl (many_none Rules) words,
      parameters_cut 4 (omega arith) (of_two TooLarge) refl (many_two TooLarge) words,
      tuple_cut d Scales words few,
      parameters_cut 4 (omega arith) (of_one Assign) refl (many_one Assign) words,
      parameters_cut 4 (omega arith) (of_one Choose) refl (many_one Choose) words,
      parameters_cut 4 (omega arith) set_token refl many_set words,
      parameters_cut 4 (omega arith) (of_none ValueShort) refl (many_none ValueShort) words,
      tuple_cut d GlobalScales words few,
    ) refl

words_cut : (d : ℕ) (words : List (List ℕ)) → d ≤ 4 → token_of d (cut_words words) ≡ token_of d words
words_cut d [] few = refl
words_cut d (word ∷ words) few = token_cut d word words few

pub token_lines_are_told : TokenLinesAreTold
token_lines_are_told d few line = ap (λ t. cond line.bad None t) (words_cut d line.words few)
