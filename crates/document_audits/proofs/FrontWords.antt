-- Lines of a front, by their words.
use Rattle.std.proofs.Common.{◌≡◌, ℕ, refl, sym, ap, ◌∙◌, arith, Bool, true, false, cond, List, [], ◌∷◌}
use Rattle.std.proofs.Common.{length, Option, Some, None, Result, Ok, Err, codes, get_or}
use Rattle.std.specs.Prelude.{◌==◌, nat_le}
use Rattle.std.proofs.lemmas.Bool.{ne_eqb, and_right}
use Rattle.packing_terms.specs.Results.{◌>>=◌}
use Rattle.text_terms.specs.Lines.{same_bytes, number_of}
use Rattle.text_terms.specs.Texts.{first_word}
use Rattle.text_terms.specs.TokenLines.{token_of}
use Rattle.verdict_terms.specs.declared.reason.Reason.{Reason}
use Rattle.verdict_terms.specs.Reasons.{form, range}
use Rattle.verdict_terms.specs.Numbers.{wanted_by, all_wanted, numbers_line, require}
use Rattle.verdict_terms.specs.Stages.{rest_of}
use Rattle.verdict_terms.specs.Lines.{PlainLine, CornerAt, PointAt, PlaceAt}
use Rattle.verdict_terms.specs.FrontDocumentVerdicts.{FrontClaim, two_by, token_by, line_named, front_claim, most_points}
use Rattle.verdict_terms.specs.FrontDocumentVerdicts.{claim_by}
use Rattle.document_audits.specs.FrontAudits.{claim_of}
use Rattle.document_audits.specs.FrontHeads.{completeness, counted_points}
use Rattle.document_audits.specs.FrontNames.{both, pair_behind}

abbrev pair_map : (ℕ → ℕ → PlainLine) → Option (ℕ × ℕ) → Option PlainLine
pair_map f (Some p) = Some (f p.0 p.1)
pair_map f None = None

two_numbers : (f : ℕ → ℕ → PlainLine) (a b : Option ℕ)
    → two_by (wanted_by a >>= λ n. (wanted_by b >>= λ m. Ok (m ∷ [])) >>= λ ns. Ok (n ∷ ns)) f ≡ pair_map f (both a b)
two_numbers f (Some x) (Some y) = refl
two_numbers f (Some x) None = refl
two_numbers f None b = none b
  where
    none : (b : Option ℕ) → None ≡ pair_map f (both None b)
    none (Some y) = refl
    none None = refl

-- a line that begins with the word has two numbers behind it, or none of its form
pair_line : (key : List ℕ) (f : ℕ → ℕ → PlainLine) (words : List (List ℕ)) → same_bytes (first_word words) key ≡ true
    → two_by (numbers_line key 2 words) f ≡ pair_map f (pair_behind words)
pair_line key f [] e = refl
pair_line key f (w ∷ []) e = rw e refl
pair_line key f (w ∷ a ∷ []) e = rw e refl
pair_line key f (w ∷ a ∷ b ∷ []) e = rw e (two_numbers f (number_of a) (number_of b))
pair_line key f (w ∷ a ∷ b ∷ c ∷ words) e =
    ap (λ t. two_by (cond t (all_wanted (a ∷ b ∷ c ∷ words)) (Err form)) f)
    (and_right (same_bytes w key) (length (a ∷ b ∷ c ∷ words) == 2)
    (ne_eqb (length (a ∷ b ∷ c ∷ words)) 2 (λ k. omega (arith, k))))

pub corner_named : (words : List (List ℕ)) → same_bytes (first_word words) (codes "corner") ≡ true
    → pair_map CornerAt (pair_behind words) ≡ line_named words
corner_named words e = sym (ap (λ b. cond b (two_by (numbers_line (codes "corner") 2 words) CornerAt) (behind words)) e
    ∙ pair_line (codes "corner") CornerAt words e)
  where
    behind : List (List ℕ) → Option PlainLine
    behind words =
        cond (same_bytes (first_word words) (codes "point")) (two_by (numbers_line (codes "point") 2 words) PointAt) (
        cond (same_bytes (first_word words) (codes "place"))
        (two_by (numbers_line (codes "place") 2 words) (λ x y. PlaceAt (x ∷ y ∷ []))) (
        token_by (token_of 2 words)))

module _ (words : List (List ℕ)) where
  abbrev places : Option PlainLine
  places = cond (same_bytes (first_word words) (codes "place"))
      (two_by (numbers_line (codes "place") 2 words) (λ x y. PlaceAt (x ∷ y ∷ []))) (token_by (token_of 2 words))

  abbrev points : Option PlainLine
  points = cond (same_bytes (first_word words) (codes "point"))
      (two_by (numbers_line (codes "point") 2 words) PointAt) places

  abbrev corners : Bool → Option PlainLine
  corners b = cond b (two_by (numbers_line (codes "corner") 2 words) CornerAt) points

  module _ (other : same_bytes (first_word words) (codes "corner") ≡ false) where
    pub point_named : same_bytes (first_word words) (codes "point") ≡ true
        → pair_map PointAt (pair_behind words) ≡ line_named words
    point_named e =
        sym (ap corners other ∙ (ap (λ b. cond b (two_by (numbers_line (codes "point") 2 words) PointAt) places) e
        ∙ pair_line (codes "point") PointAt words e))

    module _ (third : same_bytes (first_word words) (codes "point") ≡ false) where
      pub place_named : same_bytes (first_word words) (codes "place") ≡ true
          → pair_map (λ x y. PlaceAt (x ∷ y ∷ [])) (pair_behind words) ≡ line_named words
      place_named e =
          sym (ap corners other ∙ (ap (λ b. cond b (two_by (numbers_line (codes "point") 2 words) PointAt) places) third
          ∙ (ap (λ b. cond b (two_by (numbers_line (codes "place") 2 words) (λ x y. PlaceAt (x ∷ y ∷ [])))
          (token_by (token_of 2 words))) e
          ∙ pair_line (codes "place") (λ x y. PlaceAt (x ∷ y ∷ [])) words e)))

      pub token_named : same_bytes (first_word words) (codes "place") ≡ false
          → token_by (token_of 2 words) ≡ line_named words
      token_named e =
          sym (ap corners other ∙ (ap (λ b. cond b (two_by (numbers_line (codes "point") 2 words) PointAt) places) third
          ∙ ap (λ b. cond b (two_by (numbers_line (codes "place") 2 words) (λ x y. PlaceAt (x ∷ y ∷ [])))
          (token_by (token_of 2 words))) e))

-- ---- the result line

counted_claim : (complete : Bool) (word : List ℕ) (r : Result ℕ Reason) → counted_points word ≡ r
    → claim_by complete word ≡ (r >>= λ n. Ok (claim_of complete n))
counted_claim complete word r e =
    go (number_of word) ∙ ap (λ (x : Result ℕ Reason). x >>= λ n. Ok (claim_of complete n)) e
  where
    tested : (b : Bool) (n : ℕ) → require b range (Ok (claim_of complete n))
        ≡ (require b range (Ok n) >>= λ n. Ok (claim_of complete n))
    tested true n = refl
    tested false n = refl

    go : (o : Option ℕ) → (wanted_by o >>= λ n. require (nat_le n most_points) range (Ok (claim_of complete n)))
        ≡ ((wanted_by o >>= λ n. require (nat_le n most_points) range (Ok n)) >>= λ n. Ok (claim_of complete n))
    go (Some n) = tested (nat_le n most_points) n
    go None = refl

-- the claim of a result line, by its two words
abbrev pub claim_by_words : Result Bool Reason → Result ℕ Reason → Result FrontClaim Reason
claim_by_words (Ok complete) r = r >>= λ n. Ok (claim_of complete n)
claim_by_words (Err reason) r = Err reason

two_words : (key word : List ℕ)
    → front_claim (key ∷ word ∷ []) ≡ claim_by_words (completeness key) (counted_points word)
two_words key word = go (same_bytes key (codes "front")) (same_bytes key (codes "partial"))
  where
    go : (f p : Bool) → cond f (claim_by true word) (cond p (claim_by false word) (Err form))
        ≡ claim_by_words (cond f (Ok true) (cond p (Ok false) (Err form))) (counted_points word)
    go true p = counted_claim true word (counted_points word) refl
    go false true = counted_claim false word (counted_points word) refl
    go false false = refl

pub claim_read : (words : List (List ℕ)) → length words ≡ 3
    → front_claim (rest_of words) ≡ claim_by_words (completeness (get_or words 1 [])) (counted_points (get_or words 2 []))
claim_read [] e = absurd (omega (arith, e))
claim_read (a ∷ []) e = absurd (omega (arith, e))
claim_read (a ∷ b ∷ []) e = absurd (omega (arith, e))
claim_read (a ∷ b ∷ c ∷ []) e = two_words b c
claim_read (a ∷ b ∷ c ∷ d ∷ words) e = absurd (omega (arith, e))

pub claim_none : (words : List (List ℕ)) → (length words ≡ 3 → ⊥) → front_claim (rest_of words) ≡ Err form
claim_none [] e = refl
claim_none (a ∷ []) e = refl
claim_none (a ∷ b ∷ []) e = refl
claim_none (a ∷ b ∷ c ∷ []) e = absurd (e refl)
claim_none (a ∷ b ∷ c ∷ d ∷ words) e = refl
