-- The words of a token are read back as the token.
use Rattle.std.proofs.Common.{◌≡◌, ℕ, refl, ap, ap₂, ◌∙◌, arith, cond, List, [], ◌∷◌, length, Option, Some, None, codes}
use Rattle.std.specs.List.{flat_map}
use Rattle.std.specs.Fmt.{decimal}
use Rattle.std.proofs.lemmas.Bool.{le-leb, eq-eqb}
use Rattle.packing_terms.specs.declared.ScaleFn.{ScaleFn}
use Rattle.packing_terms.specs.declared.ScaleFn.TheVariants.{Id, Step, Cut, Count}
use Rattle.packing_terms.specs.Tokens.{PlainToken}
use Rattle.packing_terms.specs.Tokens.PlainToken.{Apart, Order, Rules, TooLarge, Scales, Assign, Choose, SetRefuted}
use Rattle.packing_terms.specs.Tokens.PlainToken.{ValueShort, GlobalScales}
use Rattle.text_terms.specs.Lines.{same_bytes}
use Rattle.text_terms.proofs.Spelled.{number_decimal}
use Rattle.text_terms.specs.TokenLines.{most_parameter, at_most, parameter, in_front, parameters, with_parameter}
use Rattle.text_terms.specs.TokenLines.{functions, tuple_of, of_one, of_two, of_three, set_token, token_of}
use Rattle.text_terms.specs.TokenLines.{function_words, IsParameter, AreWritten, TokensAreReadBack}

parameter_back : (n : ℕ) → IsParameter n → parameter (decimal n) ≡ Some n
parameter_back n h = ap (at_most most_parameter) (number_decimal n (omega (arith, h)))
    ∙ ap (λ b. cond b (Some n) None) (le-leb n most_parameter h)

-- ---- functions

id_first : (words : List (List ℕ)) → functions (codes "id" ∷ words) ≡ in_front (Some Id) (functions words)
unfolding same_bytes
id_first [] = refl
id_first (word ∷ words) = refl

step_first : (word : List ℕ) (words : List (List ℕ))
    → functions (codes "step" ∷ word ∷ words) ≡ in_front (with_parameter Step (parameter word)) (functions words)
unfolding same_bytes
step_first word words = refl

cut_first : (word : List ℕ) (words : List (List ℕ))
    → functions (codes "cut" ∷ word ∷ words) ≡ in_front (with_parameter Cut (parameter word)) (functions words)
unfolding same_bytes
cut_first word words = refl

count_first : (word : List ℕ) (words : List (List ℕ))
    → functions (codes "count" ∷ word ∷ words) ≡ in_front (with_parameter Count (parameter word)) (functions words)
unfolding same_bytes
count_first word words = refl

functions_back : (fs : List ScaleFn) → AreWritten fs → functions (flat_map function_words fs) ≡ Some fs
functions_back [] h = refl
functions_back (Id ∷ fs) h = id_first (flat_map function_words fs) ∙ ap (in_front (Some Id)) (functions_back fs h)
functions_back (Step k ∷ fs) h =
    step_first (decimal k) (flat_map function_words fs) ∙ ap₂ (λ x xs. in_front (with_parameter Step x) xs)
    (parameter_back k h.0) (functions_back fs h.1)
functions_back (Cut e ∷ fs) h =
    cut_first (decimal e) (flat_map function_words fs) ∙ ap₂ (λ x xs. in_front (with_parameter Cut x) xs)
    (parameter_back e h.0) (functions_back fs h.1)
functions_back (Count e ∷ fs) h =
    count_first (decimal e) (flat_map function_words fs) ∙ ap₂ (λ x xs. in_front (with_parameter Count x) xs)
    (parameter_back e h.0) (functions_back fs h.1)

tuple_back : (d : ℕ) (make : List ScaleFn → PlainToken) (fs : List ScaleFn) → length fs ≡ d → AreWritten fs
    → tuple_of d make (functions (flat_map function_words fs)) ≡ Some (make fs)
tuple_back d make fs n h = ap (tuple_of d make) (functions_back fs h)
    ∙ ap (λ b. cond b (Some (make fs)) None) (eq-eqb (length fs) d n)

-- ---- parameters

one_back : (f : Option (List ℕ) → Option PlainToken) (x : ℕ) → IsParameter x
    → f (parameters (decimal x ∷ [])) ≡ f (Some (x ∷ []))
one_back f x h = ap (λ o. f (in_front o (Some []))) (parameter_back x h)

two_back : (f : Option (List ℕ) → Option PlainToken) (x y : ℕ) → IsParameter x → IsParameter y
    → f (parameters (decimal x ∷ decimal y ∷ [])) ≡ f (Some (x ∷ y ∷ []))
two_back f x y h k = ap₂ (λ o p. f (in_front o (in_front p (Some [])))) (parameter_back x h) (parameter_back y k)

three_back : (f : Option (List ℕ) → Option PlainToken) (x y z : ℕ) → IsParameter x → IsParameter y → IsParameter z
    → f (parameters (decimal x ∷ decimal y ∷ decimal z ∷ [])) ≡ f (Some (x ∷ y ∷ z ∷ []))
three_back f x y z h k l =
    ap₂ (λ o p. f (in_front o (in_front p (parameters (decimal z ∷ []))))) (parameter_back x h) (parameter_back y k)
    ∙ ap (λ o. f (in_front (Some x) (in_front (Some y) (in_front o (Some []))))) (parameter_back z l)

pub tokens_are_read_back : TokensAreReadBack
unfolding token_of same_bytes
tokens_are_read_back d (Apart i u v) h = three_back (of_three Apart) i u v h.0 h.1 h.2
tokens_are_read_back d (Order i u v) h = three_back (of_three Order) i u v h.0 h.1 h.2
tokens_are_read_back d Rules h = refl
tokens_are_read_back d (TooLarge v i) h = two_back (of_two TooLarge) v i h.0 h.1
tokens_are_read_back d (Scales fs) h = tuple_back d Scales fs h.0 h.1
tokens_are_read_back d (Assign v) h = one_back (of_one Assign) v h
tokens_are_read_back d (Choose v) h = one_back (of_one Choose) v h
tokens_are_read_back d (SetRefuted None) h = refl
tokens_are_read_back d (SetRefuted (Some b)) h = one_back set_token b h
tokens_are_read_back d ValueShort h = refl
tokens_are_read_back d (GlobalScales fs) h = tuple_back d GlobalScales fs h.0 h.1
