-- The lines of a front, as they are written, are read back.
use Rattle.std.proofs.Common.{◌≡◌, ℕ, ◌≤◌, refl, ap, arith, true, false, codes, List}
use Rattle.std.proofs.Common.{[], ◌∷◌, map, Some, None, Ok}
use Rattle.std.proofs.lemmas.Bool.{and_from, le-leb}
use Rattle.std.specs.Fmt.{decimal}
use Rattle.packing_terms.specs.Tokens.{PlainToken}
use Rattle.packing_terms.specs.Tokens.PlainToken.{Apart, Order, Rules, TooLarge, Scales, Assign, Choose, SetRefuted}
use Rattle.packing_terms.specs.Tokens.PlainToken.{ValueShort, GlobalScales}
use Rattle.text_terms.specs.Lines.{same_bytes}
use Rattle.text_terms.specs.Texts.{is_none}
use Rattle.text_terms.proofs.Spelled.{AreWords}
use Rattle.text_terms.proofs.Back.{word_decimal}
use Rattle.text_terms.specs.TokenLines.{token_of, token_words, HasLine}
use Rattle.text_terms.proofs.TokensBack.{tokens_are_read_back}
use Rattle.verdict_terms.specs.Numbers.{max_coordinate, numbers_line}
use Rattle.verdict_terms.specs.Stages.{is_word}
use Rattle.verdict_terms.proofs.Taken.{numbers_line_is, all_wanted_is}
use Rattle.answer_terms.proofs.OwnAccepted.{decimal_number}
use Rattle.answer_terms.proofs.OwnWritten.{tokens_filled}
use Rattle.verdict_terms.specs.Lines.{PlainLine, CornerAt, PointAt, PlaceAt, TreeToken, FrontPart, Begun, Cornered}
use Rattle.verdict_terms.specs.Lines.{Placing, Pointed}
use Rattle.answer_terms.specs.FrontTexts.{line_words}
use Rattle.verdict_terms.specs.FrontDocumentVerdicts.{two_by, token_by, line_named, placed_in_range}

-- numbers that a line can have
abbrev IsNumber32 : ℕ → Type 0
IsNumber32 n = n ≤ max_coordinate

-- a line that can be written and read back
abbrev pub IsWritten : PlainLine → Type 0
IsWritten (CornerAt width height) = IsNumber32 width × IsNumber32 height
IsWritten (PointAt width height) = IsNumber32 width × IsNumber32 height
IsWritten (PlaceAt []) = ⊥
IsWritten (PlaceAt (x ∷ [])) = ⊥
IsWritten (PlaceAt (x ∷ y ∷ [])) = IsNumber32 x × IsNumber32 y
IsWritten (PlaceAt (x ∷ y ∷ z ∷ zs)) = ⊥
IsWritten (TreeToken t) = HasLine 2 t

two_words : (x y : ℕ) → IsNumber32 x → IsNumber32 y → AreWords (decimal x ∷ decimal y ∷ [])
two_words x y l m = word_decimal x (omega (arith, l)) (decimal y ∷ []) (word_decimal y (omega (arith, m)) [] tt)

two_read : (key : List ℕ) (x y : ℕ) → IsNumber32 x → IsNumber32 y
    → numbers_line key 2 (key ∷ decimal x ∷ decimal y ∷ []) ≡ Ok (x ∷ y ∷ [])
two_read key x y l m =
    numbers_line_is key 2 (decimal x ∷ decimal y ∷ []) (x ∷ y ∷ []) refl
    (all_wanted_is (decimal x ∷ decimal y ∷ []) (x ∷ y ∷ []) (
      decimal_number 0 max_coordinate x (omega arith) l (omega arith),
      (decimal_number 0 max_coordinate y (omega arith) m (omega arith), tt),
    ))

-- its words are plain, and there are some
pub words_plain : (line : PlainLine) → IsWritten line → AreWords (line_words line) × (is_none (line_words line) ≡ false)
words_plain (CornerAt x y) h = ((omega arith, refl, two_words x y h.0 h.1), refl)
words_plain (PointAt x y) h = ((omega arith, refl, two_words x y h.0 h.1), refl)
words_plain (PlaceAt []) h = absurd h
words_plain (PlaceAt (x ∷ [])) h = absurd h
words_plain (PlaceAt (x ∷ y ∷ [])) h = ((omega arith, refl, two_words x y h.0 h.1), refl)
words_plain (PlaceAt (x ∷ y ∷ z ∷ zs)) h = absurd h
words_plain (TreeToken t) h = let f = tokens_filled 2 (t ∷ []) (h, tt) in (f.0, f.1)

-- they are read as the line
token_named : (words : List (List ℕ)) (t : PlainToken) → token_of 2 words ≡ Some t
    → token_by (token_of 2 words) ≡ Some (TreeToken t)
token_named words t e = ap token_by e

pub line_read : (line : PlainLine) → IsWritten line → line_named (line_words line) ≡ Some line
unfolding same_bytes
line_read (CornerAt x y) h = ap (λ r. two_by r CornerAt) (two_read (codes "corner") x y h.0 h.1)
line_read (PointAt x y) h = ap (λ r. two_by r PointAt) (two_read (codes "point") x y h.0 h.1)
line_read (PlaceAt []) h = absurd h
line_read (PlaceAt (x ∷ [])) h = absurd h
line_read (PlaceAt (x ∷ y ∷ [])) h =
    ap (λ r. two_by r (λ a b. PlaceAt (a ∷ b ∷ []))) (two_read (codes "place") x y h.0 h.1)
line_read (PlaceAt (x ∷ y ∷ z ∷ zs)) h = absurd h
line_read (TreeToken (Apart i u v)) h =
    token_named (token_words (Apart i u v)) (Apart i u v) (tokens_are_read_back 2 (Apart i u v) h)
line_read (TreeToken (Order i u v)) h =
    token_named (token_words (Order i u v)) (Order i u v) (tokens_are_read_back 2 (Order i u v) h)
line_read (TreeToken Rules) h = token_named (token_words Rules) Rules (tokens_are_read_back 2 Rules h)
line_read (TreeToken (TooLarge v i)) h =
    token_named (token_words (TooLarge v i)) (TooLarge v i) (tokens_are_read_back 2 (TooLarge v i) h)
line_read (TreeToken (Scales fs)) h =
    token_named (token_words (Scales fs)) (Scales fs) (tokens_are_read_back 2 (Scales fs) h)
line_read (TreeToken (Assign v)) h =
    token_named (token_words (Assign v)) (Assign v) (tokens_are_read_back 2 (Assign v) h)
line_read (TreeToken (Choose v)) h =
    token_named (token_words (Choose v)) (Choose v) (tokens_are_read_back 2 (Choose v) h)
line_read (TreeToken (SetRefuted None)) h =
    token_named (token_words (SetRefuted None)) (SetRefuted None) (tokens_are_read_back 2 (SetRefuted None) h)
line_read (TreeToken (SetRefuted (Some b))) h =
    token_named (token_words (SetRefuted (Some b))) (SetRefuted (Some b)) (tokens_are_read_back 2 (SetRefuted (Some b)) h)
line_read (TreeToken ValueShort) h =
    token_named (token_words ValueShort) ValueShort (tokens_are_read_back 2 ValueShort h)
line_read (TreeToken (GlobalScales fs)) h =
    token_named (token_words (GlobalScales fs)) (GlobalScales fs) (tokens_are_read_back 2 (GlobalScales fs) h)

-- they aren't the line `end`
first_not_end : (key : List ℕ) (words : List (List ℕ)) → same_bytes key (codes "end") ≡ false
    → is_word (codes "end") (key ∷ words) ≡ false
first_not_end key [] e = e
first_not_end key (w ∷ words) e = refl

pub not_end : (line : PlainLine) → is_word (codes "end") (line_words line) ≡ false
unfolding same_bytes
not_end (CornerAt x y) = refl
not_end (PointAt x y) = refl
not_end (PlaceAt xs) = first_not_end (codes "place") (map decimal xs) refl
not_end (TreeToken (Apart i u v)) = refl
not_end (TreeToken (Order i u v)) = refl
not_end (TreeToken Rules) = refl
not_end (TreeToken (TooLarge v i)) = refl
not_end (TreeToken (Scales fs)) = first_not_end (codes "v") _ refl
not_end (TreeToken (Assign v)) = refl
not_end (TreeToken (Choose v)) = refl
not_end (TreeToken (SetRefuted None)) = refl
not_end (TreeToken (SetRefuted (Some b))) = refl
not_end (TreeToken ValueShort) = refl
not_end (TreeToken (GlobalScales fs)) = first_not_end (codes "g") _ refl

pub in_range : (part : FrontPart) (line : PlainLine) → IsWritten line → placed_in_range part line ≡ true
in_range Begun line h = refl
in_range (Cornered a b nodes) line h = refl
in_range (Pointed a b) line h = refl
in_range (Placing a b places) (CornerAt x y) h = refl
in_range (Placing a b places) (PointAt x y) h = refl
in_range (Placing a b places) (PlaceAt []) h = absurd h
in_range (Placing a b places) (PlaceAt (x ∷ [])) h = absurd h
in_range (Placing a b places) (PlaceAt (x ∷ y ∷ [])) h =
    and_from _ _ (le-leb x max_coordinate h.0) (and_from _ _ (le-leb y max_coordinate h.1) refl)
in_range (Placing a b places) (PlaceAt (x ∷ y ∷ z ∷ zs)) h = absurd h
in_range (Placing a b places) (TreeToken t) h = refl
