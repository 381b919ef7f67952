-- The words of a token are plain words of a text.
use Rattle.std.proofs.Common.{◌≡◌, ℕ, refl, arith, false, List, [], ◌∷◌, Some, None}
use Rattle.std.specs.List.{flat_map}
use Rattle.std.specs.Fmt.{decimal}
use Rattle.packing_terms.specs.declared.ScaleFn.{ScaleFn}
use Rattle.packing_terms.specs.declared.ScaleFn.TheVariants.{Id, Step, Cut, Count}
use Rattle.packing_terms.specs.Tokens.{PlainToken}
use Rattle.packing_terms.specs.Tokens.PlainToken.{Apart, Order, Rules, TooLarge, Scales, Assign, Choose, SetRefuted}
use Rattle.packing_terms.specs.Tokens.PlainToken.{ValueShort, GlobalScales}
use Rattle.text_terms.specs.Texts.{is_none}
use Rattle.text_terms.proofs.Spelled.{AreWords}
use Rattle.text_terms.proofs.Back.{word_decimal}
use Rattle.text_terms.specs.TokenLines.{IsParameter, AreWritten, HasLine, function_words, token_words}

functions_plain : (fs : List ScaleFn) → AreWritten fs → AreWords (flat_map function_words fs)
functions_plain [] h = tt
functions_plain (Id ∷ fs) h = (omega arith, refl, functions_plain fs h)
functions_plain (Step k ∷ fs) h = (omega arith, refl, word_decimal k (omega (arith, h.0)) _ (functions_plain fs h.1))
functions_plain (Cut e ∷ fs) h = (omega arith, refl, word_decimal e (omega (arith, h.0)) _ (functions_plain fs h.1))
functions_plain (Count e ∷ fs) h = (omega arith, refl, word_decimal e (omega (arith, h.0)) _ (functions_plain fs h.1))

pub one_plain : (x : ℕ) → IsParameter x → AreWords (decimal x ∷ [])
one_plain x h = word_decimal x (omega (arith, h)) [] tt

pub two_plain : (x y : ℕ) → IsParameter x → IsParameter y → AreWords (decimal x ∷ decimal y ∷ [])
two_plain x y h k = word_decimal x (omega (arith, h)) (decimal y ∷ []) (one_plain y k)

pub three_plain : (x y z : ℕ) → IsParameter x → IsParameter y → IsParameter z
    → AreWords (decimal x ∷ decimal y ∷ decimal z ∷ [])
three_plain x y z h k l = word_decimal x (omega (arith, h)) (decimal y ∷ decimal z ∷ []) (two_plain y z k l)

pub token_plain : (d : ℕ) (t : PlainToken) → HasLine d t → AreWords (token_words t) × (is_none (token_words t) ≡ false)
token_plain d (Apart i u v) h = ((omega arith, refl, three_plain i u v h.0 h.1 h.2), refl)
token_plain d (Order i u v) h = ((omega arith, refl, three_plain i u v h.0 h.1 h.2), refl)
token_plain d Rules h = ((omega arith, refl, tt), refl)
token_plain d (TooLarge v i) h = ((omega arith, refl, two_plain v i h.0 h.1), refl)
token_plain d (Scales fs) h = ((omega arith, refl, functions_plain fs h.1), refl)
token_plain d (Assign v) h = ((omega arith, refl, one_plain v h), refl)
token_plain d (Choose v) h = ((omega arith, refl, one_plain v h), refl)
token_plain d (SetRefuted None) h = ((omega arith, refl, tt), refl)
token_plain d (SetRefuted (Some b)) h = ((omega arith, refl, one_plain b h), refl)
token_plain d ValueShort h = ((omega arith, refl, tt), refl)
token_plain d (GlobalScales fs) h = ((omega arith, refl, functions_plain fs h.1), refl)
