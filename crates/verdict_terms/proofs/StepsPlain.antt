-- The words of a step are plain words of a text, and its line, fed byte by byte, is read back.
use Rattle.std.proofs.Common.{◌≡◌, ℕ, ◌≤◌, refl, sym, ap, ◌∙◌, arith, false, List, [], ◌∷◌, ◌++◌, append-nil, length, Some}
use Rattle.std.specs.Fmt.{decimal}
use Rattle.packing_terms.specs.Tokens.{PlainToken}
use Rattle.packing_terms.specs.Tokens.PlainToken.{Apart as ApartToken, Order as OrderToken, Rules, TooLarge, Scales}
use Rattle.packing_terms.specs.Tokens.PlainToken.{Assign, Choose, SetRefuted, ValueShort, GlobalScales}
use Rattle.text_terms.specs.Lines.{cut_line, line_of, text_lines}
use Rattle.text_terms.specs.Texts.{is_none}
use Rattle.text_terms.specs.Spelling.{spaced}
use Rattle.text_terms.specs.Feeding.{numbered_lines}
use Rattle.text_terms.proofs.Spelled.{AreWords, line_spaced, lines_spaced}
use Rattle.text_terms.proofs.Back.{word_decimal}
use Rattle.text_terms.proofs.LinesFed.{texts_are_lines}
use Rattle.text_terms.specs.TokenLines.{IsParameter}
use Rattle.text_terms.proofs.TokensPlain.{one_plain, three_plain, token_plain}
use Rattle.verdict_terms.specs.Steps.{PlainStep}
use Rattle.verdict_terms.specs.Steps.PlainStep.{Pair, Apart, Triple, Compose, Cycle, Order, Chain, On, Clash, Plain}
use Rattle.verdict_terms.specs.StepLines.{HasPlainLine, HasStepLine, line_step, step_words, StepsAreFedBack}
use Rattle.verdict_terms.proofs.StepsBack.{steps_are_read_back, step_lines_are_told}

four_plain : (x y z u : ℕ) → IsParameter x → IsParameter y → IsParameter z → IsParameter u
    → AreWords (decimal x ∷ decimal y ∷ decimal z ∷ decimal u ∷ [])
four_plain x y z u h k l m = word_decimal x (omega (arith, h)) (decimal y ∷ decimal z ∷ decimal u ∷ [])
    (three_plain y z u k l m)

five_plain : (x y z u v : ℕ) → IsParameter x → IsParameter y → IsParameter z → IsParameter u → IsParameter v
    → AreWords (decimal x ∷ decimal y ∷ decimal z ∷ decimal u ∷ decimal v ∷ [])
five_plain x y z u v h k l m n =
    word_decimal x (omega (arith, h)) (decimal y ∷ decimal z ∷ decimal u ∷ decimal v ∷ []) (four_plain y z u v k l m n)

plain_plain : (d : ℕ) (t : PlainToken) → HasPlainLine d t → AreWords (step_words (Plain t))
    × (is_none (step_words (Plain t)) ≡ false)
plain_plain d (ApartToken i u v) h = token_plain d (ApartToken i u v) h
plain_plain d (OrderToken i u v) h = token_plain d (OrderToken i u v) h
plain_plain d (TooLarge v i) h = token_plain d (TooLarge v i) h
plain_plain d (Scales fs) h = token_plain d (Scales fs) h
plain_plain d Rules h = absurd h
plain_plain d (Assign v) h = absurd h
plain_plain d (Choose v) h = absurd h
plain_plain d (SetRefuted b) h = absurd h
plain_plain d ValueShort h = absurd h
plain_plain d (GlobalScales fs) h = absurd h

pub step_plain : (d : ℕ) (s : PlainStep) → HasStepLine d s → AreWords (step_words s) × (is_none (step_words s) ≡ false)
step_plain d (Pair i u v) h = ((omega arith, refl, three_plain i u v h.0 h.1 h.2), refl)
step_plain d (Apart i u v) h = ((omega arith, refl, three_plain i u v h.0 h.1 h.2), refl)
step_plain d (Triple i u v x) h = ((omega arith, refl, four_plain i u v x h.0 h.1 h.2 h.3), refl)
step_plain d (Compose i u v x) h = ((omega arith, refl, four_plain i u v x h.0 h.1 h.2 h.3), refl)
step_plain n (Cycle i a b c d) h = ((omega arith, refl, five_plain i a b c d h.0 h.1 h.2 h.3 h.4), refl)
step_plain n (Order i a b c d) h = ((omega arith, refl, five_plain i a b c d h.0 h.1 h.2 h.3 h.4), refl)
step_plain d (Chain i p q) h = ((omega arith, refl, three_plain i p q h.0 h.1 h.2), refl)
step_plain d (On v) h = ((omega arith, refl, one_plain v h), refl)
step_plain d (Clash i u v) h = ((omega arith, refl, three_plain i u v h.0 h.1 h.2), refl)
step_plain d (Plain token) h = plain_plain d token h

pub steps_are_fed_back : StepsAreFedBack
steps_are_fed_back d few s has =
    let plain : AreWords (step_words s) = (step_plain d s has).0 in
    let text : text_lines (spaced (step_words s) ++ 10 ∷ []) ≡ spaced (step_words s) ∷ [] =
    ap text_lines (sym (append-nil (spaced (step_words s) ++ 10 ∷ [])))
    ∙ lines_spaced (step_words s ∷ []) (plain, tt) in
    record {
      line = cut_line (line_of (spaced (step_words s)));
      fed = texts_are_lines (spaced (step_words s) ++ 10 ∷ []) ∙ ap (numbered_lines 0) text;
      read = step_lines_are_told d few (line_of (spaced (step_words s)))
          ∙ ap (line_step d) (line_spaced (step_words s) plain)
          ∙ steps_are_read_back d s has;
    }
