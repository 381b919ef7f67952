-- The words of a step are read back as the step, and a line that is cut is the same step.
use Rattle.std.proofs.Common.{◌≡◌, ℕ, ◌≤◌, refl, ap, ap₂, ◌∙◌, arith, cond, List, [], ◌∷◌, length, take}
use Rattle.std.proofs.Common.{Some, None, codes}
use Rattle.std.specs.Fmt.{decimal}
use Rattle.std.proofs.lemmas.Bool.{le-leb}
use Rattle.packing_terms.specs.Tokens.PlainToken.{Apart as ApartToken, Order as OrderToken, Rules, TooLarge, Scales}
use Rattle.packing_terms.specs.Tokens.PlainToken.{Assign, Choose, SetRefuted, ValueShort, GlobalScales}
use Rattle.text_terms.specs.Lines.{cut_words, same_bytes}
use Rattle.text_terms.proofs.Spelled.{number_decimal}
use Rattle.text_terms.proofs.Cut.{same_front}
use Rattle.text_terms.specs.TokenLines.{most_parameter, at_most, parameter, parameters, in_front}
use Rattle.text_terms.specs.TokenLines.{IsParameter}
use Rattle.text_terms.proofs.Cuts.{cut_rest, parameters_cut, token_cut}
use Rattle.text_terms.proofs.TokensBack.{tokens_are_read_back}
use Rattle.verdict_terms.specs.Steps.{PlainStep}
use Rattle.verdict_terms.specs.Steps.PlainStep.{Pair, Apart, Triple, Compose, Cycle, Order, Chain, On, Clash, Plain}
use Rattle.verdict_terms.specs.StepLines.{of_one, of_three, of_four, of_five, as_plain, step_of}
use Rattle.verdict_terms.specs.StepLines.{StepsAreReadBack, StepLinesAreTold}

parameter_back : (n : ℕ) → IsParameter n → parameter (decimal n) ≡ Some n
parameter_back n h = ap (at_most most_parameter) (number_decimal n (omega (arith, h)))
    ∙ ap (λ b. cond b (Some n) None) (le-leb n most_parameter h)

in_front_back : (n : ℕ) (words : List (List ℕ)) (ns : List ℕ) → IsParameter n → parameters words ≡ Some ns
    → parameters (decimal n ∷ words) ≡ Some (n ∷ ns)
in_front_back n words ns h e = ap₂ (λ x xs. in_front x xs) (parameter_back n h) e

three : (x y z : ℕ) → IsParameter x → IsParameter y → IsParameter z
    → parameters (decimal x ∷ decimal y ∷ decimal z ∷ []) ≡ Some (x ∷ y ∷ z ∷ [])
three x y z a b c = in_front_back x (decimal y ∷ decimal z ∷ []) (y ∷ z ∷ []) a
    (in_front_back y (decimal z ∷ []) (z ∷ []) b (in_front_back z [] [] c refl))

four : (x y z u : ℕ) → IsParameter x → IsParameter y → IsParameter z → IsParameter u
    → parameters (decimal x ∷ decimal y ∷ decimal z ∷ decimal u ∷ []) ≡ Some (x ∷ y ∷ z ∷ u ∷ [])
four x y z u a b c d = in_front_back x (decimal y ∷ decimal z ∷ decimal u ∷ []) (y ∷ z ∷ u ∷ []) a (three y z u b c d)

five : (x y z u v : ℕ) → IsParameter x → IsParameter y → IsParameter z → IsParameter u → IsParameter v
    → parameters (decimal x ∷ decimal y ∷ decimal z ∷ decimal u ∷ decimal v ∷ []) ≡ Some (x ∷ y ∷ z ∷ u ∷ v ∷ [])
five x y z u v a b c d e = in_front_back x (decimal y ∷ decimal z ∷ decimal u ∷ decimal v ∷ []) (y ∷ z ∷ u ∷ v ∷ []) a
    (four y z u v b c d e)

pub steps_are_read_back : StepsAreReadBack
unfolding step_of same_bytes
steps_are_read_back d (Pair i u v) h = ap (of_three Pair) (three i u v h.0 h.1 h.2)
steps_are_read_back d (Apart i u v) h = ap (of_three Apart) (three i u v h.0 h.1 h.2)
steps_are_read_back d (Triple i u v x) h = ap (of_four Triple) (four i u v x h.0 h.1 h.2 h.3)
steps_are_read_back d (Compose i u v x) h = ap (of_four Compose) (four i u v x h.0 h.1 h.2 h.3)
steps_are_read_back n (Cycle i a b c d) h = ap (of_five Cycle) (five i a b c d h.0 h.1 h.2 h.3 h.4)
steps_are_read_back n (Order i a b c d) h = ap (of_five Order) (five i a b c d h.0 h.1 h.2 h.3 h.4)
steps_are_read_back d (Chain i p q) h = ap (of_three Chain) (three i p q h.0 h.1 h.2)
steps_are_read_back d (On v) h = ap (of_one On) (in_front_back v [] [] h refl)
steps_are_read_back d (Clash i u v) h = ap (of_three Clash) (three i u v h.0 h.1 h.2)
steps_are_read_back d (Plain (ApartToken i u v)) h = ap as_plain (tokens_are_read_back d (ApartToken i u v) h)
steps_are_read_back d (Plain (OrderToken i u v)) h = ap as_plain (tokens_are_read_back d (OrderToken i u v) h)
steps_are_read_back d (Plain (TooLarge v i)) h = ap as_plain (tokens_are_read_back d (TooLarge v i) h)
steps_are_read_back d (Plain (Scales fs)) h = ap as_plain (tokens_are_read_back d (Scales fs) h)
steps_are_read_back d (Plain Rules) h = absurd h
steps_are_read_back d (Plain (Assign v)) h = absurd h
steps_are_read_back d (Plain (Choose v)) h = absurd h
steps_are_read_back d (Plain (SetRefuted b)) h = absurd h
steps_are_read_back d (Plain ValueShort) h = absurd h
steps_are_read_back d (Plain (GlobalScales fs)) h = absurd h

-- ---- lines that are cut

many_one : (make : ℕ → PlainStep) (xs : List ℕ) → 6 ≤ length xs → of_one make (Some xs) ≡ None
many_one make [] l = refl
many_one make (x ∷ []) l = absurd (omega (arith, l))
many_one make (x ∷ y ∷ xs) l = refl

many_three : (make : ℕ → ℕ → ℕ → PlainStep) (xs : List ℕ) → 6 ≤ length xs → of_three make (Some xs) ≡ None
many_three make [] l = refl
many_three make (x ∷ []) l = refl
many_three make (x ∷ y ∷ []) l = refl
many_three make (x ∷ y ∷ z ∷ []) l = absurd (omega (arith, l))
many_three make (x ∷ y ∷ z ∷ u ∷ xs) l = refl

many_four : (make : ℕ → ℕ → ℕ → ℕ → PlainStep) (xs : List ℕ) → 6 ≤ length xs → of_four make (Some xs) ≡ None
many_four make [] l = refl
many_four make (x ∷ []) l = refl
many_four make (x ∷ y ∷ []) l = refl
many_four make (x ∷ y ∷ z ∷ []) l = refl
many_four make (x ∷ y ∷ z ∷ u ∷ []) l = absurd (omega (arith, l))
many_four make (x ∷ y ∷ z ∷ u ∷ v ∷ xs) l = refl

many_five : (make : ℕ → ℕ → ℕ → ℕ → ℕ → PlainStep) (xs : List ℕ) → 6 ≤ length xs → of_five make (Some xs) ≡ None
many_five make [] l = refl
many_five make (x ∷ []) l = refl
many_five make (x ∷ y ∷ []) l = refl
many_five make (x ∷ y ∷ z ∷ []) l = refl
many_five make (x ∷ y ∷ z ∷ u ∷ []) l = refl
many_five make (x ∷ y ∷ z ∷ u ∷ v ∷ []) l = absurd (omega (arith, l))
many_five make (x ∷ y ∷ z ∷ u ∷ v ∷ w ∷ xs) l = refl

step_cut : (d : ℕ) (word : List ℕ) (words : List (List ℕ)) → d ≤ 4
    → step_of d (take 21 word ∷ cut_rest words) ≡ step_of d (word ∷ words)
unfolding step_of
step_cut d word words few =
    rw (
      same_front 21 word (codes "pair") (omega arith),
      same_front 21 word (codes "apart") (omega arith),
      same_front 21 word (codes "triple") (omega arith),
      same_front 21 word (codes "compose") (omega arith),
      same_front 21 word (codes "cycle") (omega arith),
      same_front 21 word (codes "order") (omega arith),
      same_front 21 word (codes "chain") (omega arith),
      same_front 21 word (codes "on") (omega arith),
      same_front 21 word (codes "x") (omega arith),
      same_front 21 word (codes "a") (omega arith),
      same_front 21 word (codes "d") (omega arith),
      same_front 21 word (codes "t") (omega arith),
      same_front 21 word (codes "v") (omega arith),
      parameters_cut 6 (omega arith) (of_three Pair) refl (many_three Pair) words,
      parameters_cut 6 (omega arith) (of_three Apart) refl (many_three Apart) words,
      parameters_cut 6 (omega arith) (of_four Triple) refl (many_four Triple) words,
      parameters_cut 6 (omega arith) (of_four Compose) refl (many_four Compose) words,
      parameters_cut 6 (omega arith) (of_five Cycle) refl (many_five Cycle) words,
      parameters_cut 6 (omega arith) (of_five Order) refl (many_five Order) words,
      parameters_cut 6 (omega arith) (of_three Chain) refl (many_three Chain) words,
      parameters_cut 6 (omega arith) (of_one On) refl (many_one On) words,
      parameters_cut 6 (omega arith) (of_three Clash) refl (many_three Clash) words,
      token_cut d word words few,
    ) refl

words_cut : (d : ℕ) (words : List (List ℕ)) → d ≤ 4 → step_of d (cut_words words) ≡ step_of d words
words_cut d [] few = refl
words_cut d (word ∷ words) few = step_cut d word words few

pub step_lines_are_told : StepLinesAreTold
step_lines_are_told d few line = ap (λ t. cond line.bad None t) (words_cut d line.words few)
