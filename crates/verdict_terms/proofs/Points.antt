-- The lines of a front that a verdict takes name the points that their words name, and no other line
-- that it takes names any.
use Rattle.std.proofs.Common.{◌≡◌, ℕ, refl, sym, ap, subst, ◌∙◌, arith, Bool, true, false, cond, ◌&&◌, List, []}
use Rattle.std.proofs.Common.{◌∷◌, ◌++◌, length, Option, Some, None, Result, Ok, Err, codes}
use Rattle.std.specs.Prelude.{◌==◌}
use Rattle.std.proofs.lemmas.Bool.{true≢false, eqb-true, and_parts}
use Rattle.packing_terms.specs.Tokens.{PlainToken}
use Rattle.packing_terms.specs.Results.{◌>>=◌}
use Rattle.text_terms.specs.Codes.{unknown_word, bad_byte}
use Rattle.text_terms.specs.Lines.{Line, number_of, same_bytes}
use Rattle.text_terms.specs.Texts.{Parts, add_line, by_words, refuse, kerf_line, is_none, first_word}
use Rattle.text_terms.proofs.FormNumbers.{word_is}
use Rattle.text_terms.specs.TokenLines.{token_of}
use Rattle.verdict_terms.specs.declared.reason.Reason.{Reason}
use Rattle.verdict_terms.specs.Reasons.{form}
use Rattle.verdict_terms.specs.Numbers.{wanted_by, all_wanted, numbers_line}
use Rattle.verdict_terms.specs.Stages.{is_word, is_result, is_blank}
use Rattle.verdict_terms.specs.Lines.{PlainLine, CornerAt, PointAt, PlaceAt, TreeToken}
use Rattle.verdict_terms.specs.Verdicts.{points_named}
use Rattle.verdict_terms.specs.FrontDocumentVerdicts.{two_by, token_by, line_named}
use Rattle.verdict_terms.specs.Points.{point_by, point_of_words}

-- ---- lines that name no point

-- words of another key
other_words : (words : List (List ℕ)) → same_bytes (first_word words) (codes "point") ≡ false
    → point_of_words words ≡ []
other_words [] e = refl
other_words (key ∷ []) e = refl
other_words (key ∷ a ∷ []) e = refl
other_words (key ∷ a ∷ b ∷ []) e = ap (λ t. cond t (point_by (number_of a) (number_of b)) []) e
other_words (key ∷ a ∷ b ∷ c ∷ words) e = refl

keyed_words : (words : List (List ℕ)) (key : List ℕ) → same_bytes (first_word words) key ≡ true
    → same_bytes key (codes "point") ≡ false → point_of_words words ≡ []
keyed_words words key is other =
    other_words words (ap (λ w. same_bytes w (codes "point")) (word_is (first_word words) key is) ∙ other)

-- a blank line
pub blank_words : (line : Line) → is_blank line ≡ true → point_of_words line.words ≡ []
blank_words line e = go line.words ((and_parts _ _ e).1)
  where
    go : (words : List (List ℕ)) → is_none words ≡ true → point_of_words words ≡ []
    go [] k = refl
    go (word ∷ words) k = absurd (true≢false (sym k))

-- a line of one word
pub one_word : (key : List ℕ) (words : List (List ℕ)) → is_word key words ≡ true → point_of_words words ≡ []
one_word key [] e = refl
one_word key (word ∷ []) e = refl
one_word key (word ∷ next ∷ words) e = absurd (true≢false (sym e))

-- the result line
result_point : same_bytes (codes "result") (codes "point") ≡ false
unfolding same_bytes
result_point = refl

pub result_words : (line : Line) → is_result line ≡ true → point_of_words line.words ≡ []
result_words line e = keyed_words line.words (codes "result") ((and_parts _ _ e).1) result_point

-- a line of the instance
point_unknown : (parts : Parts) (words : List (List ℕ)) → by_words parts (codes "point" ∷ words) ≡ Err unknown_word
unfolding same_bytes
point_unknown parts words = go (parts.format == 2)
  where
    go : (b : Bool) → cond (b && false) (kerf_line parts words) (Err unknown_word) ≡ Err unknown_word
    go true = refl
    go false = refl

pub added_words : (parts more : Parts) (line : Line) → add_line parts line ≡ Ok more → point_of_words line.words ≡ []
added_words parts more line e = go line.bad e
  where
    keyed : (words : List (List ℕ)) → by_words parts words ≡ Ok more → point_of_words words ≡ []
    keyed [] k = refl
    keyed (word ∷ words) k = by_key (same_bytes word (codes "point")) refl
      where
        by_key : (b : Bool) → same_bytes word (codes "point") ≡ b → point_of_words (word ∷ words) ≡ []
        by_key true is = absurd (let f = sym (point_unknown parts words)
            ∙ (ap (λ w. by_words parts (w ∷ words)) (sym (word_is word (codes "point") is)) ∙ k) in cc (f))
        by_key false is = other_words (word ∷ words) is

    go : (b : Bool) → refuse b bad_byte (by_words parts line.words) ≡ Ok more → point_of_words line.words ≡ []
    go true k = absurd (cc (k))
    go false k = keyed line.words k

-- ---- lines of the front

two_named : (r : Result (List ℕ) Reason) (f : ℕ → ℕ → PlainLine) (line : PlainLine) → two_by r f ≡ Some line
    → (x : ℕ) × (y : ℕ) × (r ≡ Ok (x ∷ y ∷ [])) × (f x y ≡ line)
two_named (Ok []) f line e = absurd (cc (e))
two_named (Ok (x ∷ [])) f line e = absurd (cc (e))
two_named (Ok (x ∷ y ∷ [])) f line e = (x, y, refl, cc (e))
two_named (Ok (x ∷ y ∷ z ∷ more)) f line e = absurd (cc (e))
two_named (Err reason) f line e = absurd (cc (e))

two_numbers : (a b : Option ℕ) (x y : ℕ)
    → (wanted_by a >>= λ n. (wanted_by b >>= λ m. Ok (m ∷ [])) >>= λ ns. Ok (n ∷ ns)) ≡ Ok (x ∷ y ∷ [])
    → point_by a b ≡ (x, y) ∷ []
two_numbers (Some n) (Some m) x y e = cc (e)
two_numbers (Some n) None x y e = absurd (cc (e))
two_numbers None b x y e = absurd (cc (e))

point_numbers : (words : List (List ℕ)) (x y : ℕ) → numbers_line (codes "point") 2 words ≡ Ok (x ∷ y ∷ [])
    → point_of_words words ≡ (x, y) ∷ []
point_numbers [] x y e = absurd (cc (e))
point_numbers (key ∷ words) x y e = go (same_bytes key (codes "point")) refl (length words == 2) refl e
  where
    shaped : (words : List (List ℕ)) → length words ≡ 2 → same_bytes key (codes "point") ≡ true
        → all_wanted words ≡ Ok (x ∷ y ∷ []) → point_of_words (key ∷ words) ≡ (x, y) ∷ []
    shaped [] two is k = absurd (omega (arith, two))
    shaped (a ∷ []) two is k = absurd (omega (arith, two))
    shaped (a ∷ b ∷ []) two is k =
        ap (λ t. cond t (point_by (number_of a) (number_of b)) []) is ∙ two_numbers (number_of a) (number_of b) x y k
    shaped (a ∷ b ∷ c ∷ more) two is k = absurd (omega (arith, two))

    go : (s : Bool) → same_bytes key (codes "point") ≡ s → (t : Bool) → (length words == 2) ≡ t
        → cond (s && t) (all_wanted words) (Err form) ≡ Ok (x ∷ y ∷ []) → point_of_words (key ∷ words) ≡ (x, y) ∷ []
    go true is true two k = shaped words (eqb-true _ _ two) is k
    go true is false two k = absurd (cc (k))
    go false is t two k = absurd (cc (k))

-- a line and what is behind it name what the words of the line name, and what that does
abbrev pub IsNamed : List (List ℕ) → PlainLine → List PlainLine → Type 0
IsNamed words line lines = points_named (line ∷ lines) ≡ point_of_words words ++ points_named lines

-- a line that isn't a point
nothing_named : (words : List (List ℕ)) (line : PlainLine) (lines : List PlainLine) → point_of_words words ≡ []
    → points_named (line ∷ lines) ≡ points_named lines → IsNamed words line lines
nothing_named words line lines none e = e ∙ ap (λ m. m ++ points_named lines) (sym none)

token_named : (o : Option PlainToken) (line : PlainLine) → token_by o ≡ Some line
    → (t : PlainToken) × (TreeToken t ≡ line)
token_named (Some t) line e = (t, cc (e))
token_named None line e = absurd (cc (e))

corner_point : same_bytes (codes "corner") (codes "point") ≡ false
unfolding same_bytes
corner_point = refl

pub line_names : (words : List (List ℕ)) (line : PlainLine) (lines : List PlainLine) → line_named words ≡ Some line
    → IsNamed words line lines
line_names words line lines e =
    go (same_bytes (first_word words) (codes "corner")) refl (same_bytes (first_word words) (codes "point")) refl
    (same_bytes (first_word words) (codes "place")) e
  where
    go : (c : Bool) → same_bytes (first_word words) (codes "corner") ≡ c
        → (p : Bool) → same_bytes (first_word words) (codes "point") ≡ p → (l : Bool)
        → cond c (two_by (numbers_line (codes "corner") 2 words) CornerAt) (
        cond p (two_by (numbers_line (codes "point") 2 words) PointAt) (
        cond l (two_by (numbers_line (codes "place") 2 words) (λ x y. PlaceAt (x ∷ y ∷ []))) (
        token_by (token_of 2 words)))) ≡ Some line
        → IsNamed words line lines
    go true corner p is l k =
        let n = two_named (numbers_line (codes "corner") 2 words) CornerAt line k in
        nothing_named words line lines (keyed_words words (codes "corner") corner corner_point)
        (subst (λ (z : PlainLine). points_named (z ∷ lines) ≡ points_named lines) n.3 refl)
    go false corner true is l k =
        let n = two_named (numbers_line (codes "point") 2 words) PointAt line k in
        subst (λ (z : PlainLine). IsNamed words z lines) n.3
        (ap (λ m. m ++ points_named lines) (sym (point_numbers words n.0 n.1 n.2)))
    go false corner false is true k =
        let n = two_named (numbers_line (codes "place") 2 words) (λ x y. PlaceAt (x ∷ y ∷ [])) line k in
        nothing_named words line lines (other_words words is)
        (subst (λ (z : PlainLine). points_named (z ∷ lines) ≡ points_named lines) n.3 refl)
    go false corner false is false k =
        let n = token_named (token_of 2 words) line k in
        nothing_named words line lines (other_words words is)
        (subst (λ (z : PlainLine). points_named (z ∷ lines) ≡ points_named lines) n.1 refl)
