-- What it says that tests were passed.
use Rattle.std.proofs.Common.{◌≡◌, ℕ, refl, sym, ap, subst, ◌∙◌, arith, Bool, true, false, cond, List, [], ◌∷◌, length}
use Rattle.std.proofs.Common.{Option, Some, None, Result, Ok, Err}
use Rattle.std.proofs.lemmas.Bool.{and_parts, leb-true, eqb-true}
use Rattle.text_terms.specs.Lines.{number_of}
use Rattle.packing_terms.specs.Results.{◌>>=◌}
use Rattle.text_terms.proofs.Good.{bind_ok}
use Rattle.text_terms.proofs.FormNumbers.{word_is}
use Rattle.verdict_terms.specs.declared.reason.Reason.{Reason}
use Rattle.verdict_terms.specs.Reasons.{form}
use Rattle.verdict_terms.specs.Form.{AreCoordinates}
use Rattle.verdict_terms.specs.Numbers.{max_coordinate, require, wanted_by, wanted, all_wanted, numbers_line}
use Rattle.verdict_terms.specs.Numbers.{are_coordinates, coordinates}
use Rattle.verdict_terms.specs.Stages.{refused_by, is_word}

pub require_ok : {A : Type 0} (test : Bool) (reason : Reason) (rest : Result A Reason) (x : A)
    → require test reason rest ≡ Ok x → (test ≡ true) × (rest ≡ Ok x)
require_ok true reason rest x e = (refl, e)
require_ok false reason rest x e = absurd (cc (e))

pub refused_ok : {A : Type 0} (o : Option Reason) (rest : Result A Reason) (x : A) → refused_by o rest ≡ Ok x
    → (o ≡ None) × (rest ≡ Ok x)
refused_ok None rest x e = (refl, e)
refused_ok (Some reason) rest x e = absurd (cc (e))

pub cond_ok : {A : Type 0} (test : Bool) (r : Result A Reason) (reason : Reason) (x : A)
    → cond test r (Err reason) ≡ Ok x → (test ≡ true) × (r ≡ Ok x)
cond_ok true r reason x e = (refl, e)
cond_ok false r reason x e = absurd (cc (e))

pub ok_is : {A E : Type 0} (x y : A) → ◌≡◌ {A = Result A E} (Ok x) (Ok y) → x ≡ y
ok_is x y e = cc (e)

pub wanted_ok : (word : List ℕ) (n : ℕ) → wanted word ≡ Ok n → number_of word ≡ Some n
wanted_ok word n e = go (number_of word) refl e
  where
    go : (o : Option ℕ) → number_of word ≡ o → wanted_by o ≡ Ok n → number_of word ≡ Some n
    go (Some m) f k = let same : m ≡ n = cc (k) in f ∙ ap Some same
    go None f k = absurd (cc (k))

-- numbers that are coordinates
pub numbers_are : (words : List (List ℕ)) (ns : List ℕ) → all_wanted words ≡ Ok ns → are_coordinates ns ≡ true
    → AreCoordinates words ns
numbers_are [] ns e h = let same : [] ≡ ns = cc (e) in subst (λ l. AreCoordinates [] l) same tt
numbers_are (word ∷ words) ns e h =
    let a = bind_ok (wanted word) (λ n. all_wanted words >>= λ ms. Ok (n ∷ ms)) ns e in
    let b = bind_ok (all_wanted words) (λ ms. Ok (a.0 ∷ ms)) ns a.2 in
    let same : a.0 ∷ b.0 ≡ ns = cc (b.2) in
    let k = and_parts _ _ (subst (λ l. are_coordinates l ≡ true) (sym same) h) in
    subst (λ l. AreCoordinates (word ∷ words) l) same (
      record { number = wanted_ok word a.0 a.1; least = omega arith; most = leb-true a.0 max_coordinate k.0 },
      numbers_are words b.0 b.1 k.1,
    )

-- a line of the first word `key`, and of `count` numbers
pub record NumbersLine (key : List ℕ) (count : ℕ) (words : List (List ℕ)) (ns : List ℕ) : Type 0 where
  pub numbers : List (List ℕ)
  pub are : words ≡ key ∷ numbers
  pub counted : length numbers ≡ count
  pub read : all_wanted numbers ≡ Ok ns

pub numbers_line_ok : (key : List ℕ) (count : ℕ) (words : List (List ℕ)) (ns : List ℕ)
    → numbers_line key count words ≡ Ok ns → NumbersLine key count words ns
numbers_line_ok key count [] ns e = absurd (cc (e))
numbers_line_ok key count (word ∷ words) ns e =
    let c = cond_ok _ (all_wanted words) form ns e in
    let p = and_parts _ _ c.0 in
    record {
      numbers = words;
      are = ap (λ w. w ∷ words) (word_is word key p.0);
      counted = eqb-true (length words) count p.1;
      read = c.1;
    }

pub coordinates_ok : (ns xs : List ℕ) → coordinates ns ≡ Ok xs → (are_coordinates ns ≡ true) × (ns ≡ xs)
coordinates_ok ns xs e = let r = require_ok _ _ (Ok ns) xs e in (r.0, ok_is ns xs r.1)

pub is_word_ok : (key : List ℕ) (words : List (List ℕ)) → is_word key words ≡ true → words ≡ key ∷ []
is_word_ok key [] e = absurd (cc (e))
is_word_ok key (word ∷ []) e = ap (λ w. w ∷ []) (word_is word key e)
is_word_ok key (word ∷ other ∷ words) e = absurd (cc (e))
