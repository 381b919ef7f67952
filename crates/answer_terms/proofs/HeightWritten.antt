-- The tokens of a refutation with families have lines.
use Rattle.std.proofs.Common.{◌≡◌, ℕ, ◌≤◌, refl, sym, subst, arith, false, List, [], ◌∷◌, ◌++◌, map, length}
use Rattle.std.specs.List.{AllByRecursion}
use Rattle.std.specs.Fmt.{decimal}
use Rattle.packing_terms.specs.Packing.{PlainInstance, dims}
use Rattle.text_terms.specs.Texts.{is_none}
use Rattle.text_terms.proofs.Spelled.{AreWords}
use Rattle.text_terms.proofs.Back.{word_decimal}
use Rattle.text_terms.specs.TokenLines.{IsParameter}
use Rattle.text_terms.proofs.TokensPlain.{token_plain}
use Rattle.verdict_terms.specs.Families.{IsBoxNo}
use Rattle.verdict_terms.specs.FamilyRefutation.{FamilyToken, Plain, Family, FamilyNode, MayJoin, RefutesFamilies}
use Rattle.verdict_terms.specs.FamilyRefutation.{by_rules, by_side, by_scales, by_family, by_part, by_apart, by_order}
use Rattle.verdict_terms.specs.FamilyLines.{HasFamilyLine, family_token_words, most_joining}
use Rattle.verdict_terms.proofs.FamilyBack.{family_tokens_are_read_back}
use Rattle.verdict_terms.specs.Form.{AreFamilyLines}
use Rattle.answer_terms.specs.HeightAnswers.{AreJoining, family_token_lines}
use Rattle.answer_terms.proofs.Filled.{AreFilled}
use Rattle.answer_terms.proofs.OwnWritten.{IsBounded, tuple_written, named_written, large_written}

-- each token has a line with d dimensions
abbrev pub HaveFamilyLines : ℕ → List FamilyToken → Type 0
HaveFamilyLines d [] = Unit {0}
HaveFamilyLines d (t ∷ ts) = HasFamilyLine d t × HaveFamilyLines d ts

-- ---- their lines

-- the words of small numbers are plain
numbers_plain : (vs : List ℕ) → AllByRecursion (λ v. IsParameter v) vs → AreWords (map decimal vs)
numbers_plain [] h = tt
numbers_plain (v ∷ vs) h = let small = h.0 in word_decimal v (omega (arith, small)) (map decimal vs) (numbers_plain vs h.1)

-- the words of a token are plain, and there are some
family_token_plain : (d : ℕ) (t : FamilyToken) → HasFamilyLine d t
    → AreWords (family_token_words t) × (is_none (family_token_words t) ≡ false)
family_token_plain d (Plain t) h = token_plain d t h
family_token_plain d (Family i vs) h =
    let small = h.0 in
    ((omega arith, refl, word_decimal i (omega (arith, small)) (map decimal vs) (numbers_plain vs h.1)), refl)

-- its line is filled
pub families_filled : (d : ℕ) (ts : List FamilyToken) → HaveFamilyLines d ts → AreFilled (family_token_lines ts)
families_filled d [] h = tt
families_filled d (t ∷ ts) h = let p = family_token_plain d t h.0 in (p.0, p.1, families_filled d ts h.1)

-- and read back as the token
pub families_are_lines : (d : ℕ) (ts : List FamilyToken) → HaveFamilyLines d ts
    → AreFamilyLines d (family_token_lines ts) ts
families_are_lines d [] h = tt
families_are_lines d (t ∷ ts) h = (family_tokens_are_read_back d t h.0, families_are_lines d ts h.1)

-- ---- refutations

joined_lines : (d : ℕ) (z xs ys : List FamilyToken) → z ≡ xs ++ ys → HaveFamilyLines d xs → HaveFamilyLines d ys
    → HaveFamilyLines d z
joined_lines d z xs ys e h k = subst (HaveFamilyLines d) (sym e) (go xs h)
  where
    go : (ts : List FamilyToken) → HaveFamilyLines d ts → HaveFamilyLines d (ts ++ ys)
    go [] h = k
    go (t ∷ ts) h = (h.0, go ts h.1)

-- the tokens of both parts join
joining_parts : (xs ys : List FamilyToken) → AreJoining (xs ++ ys) → AreJoining xs × AreJoining ys
joining_parts [] ys h = (tt, h)
joining_parts (Plain t ∷ xs) ys h = joining_parts xs ys h
joining_parts (Family i vs ∷ xs) ys h = let p = joining_parts xs ys h.2 in ((h.0, h.1, p.0), p.1)

-- numbers of boxes are small
boxes_small : (instance : PlainInstance) → IsBounded instance → (vs : List ℕ)
    → AllByRecursion (λ v. IsBoxNo instance v) vs → AllByRecursion (λ v. IsParameter v) vs
boxes_small instance bounded [] h = tt
boxes_small instance bounded (v ∷ vs) h =
    let m = bounded.boxes in let b = h.0.1 in (omega (arith, m, b), boxes_small instance bounded vs h.1)

module _ (instance : PlainInstance) (bounded : IsBounded instance) where
  joined_written : (n : FamilyNode) (i : ℕ) (vs : List ℕ) → MayJoin instance n i vs → 1 ≤ length vs
      → length vs ≤ most_joining → HasFamilyLine (dims instance) (Family i vs)
  joined_written n i vs j some few =
      let d = bounded.dimensions in let t = j.dim_to in
      (omega (arith, d, t), boxes_small instance bounded vs j.boxes, some, few)

  -- each token of a refutation has a line
  pub families_written : {n : FamilyNode} {z : List FamilyToken} → RefutesFamilies instance n z → AreJoining z
      → HaveFamilyLines (dims instance) z
  families_written (by_rules c) joining = (tt, tt)
  families_written (by_side {v = v} {i = i} h) joining = (large_written instance v i bounded h, tt)
  families_written (by_scales {fs = fs} h) joining = (tuple_written instance fs bounded h.tuple, tt)
  families_written (by_family {n = n} {i = i} {vs = vs} j long) joining =
      (joined_written n i vs j joining.0 joining.1, tt)
  families_written (by_part {n = n} {i = i} {vs = vs} j short rest) joining =
      (joined_written n i vs j joining.0 joining.1, families_written rest joining.2)
  families_written (by_apart {i = i} {u = u} {v = v} {l = l} {r = r} {z = z} h e left right) joining =
      let parts = joining_parts l r (subst AreJoining e joining) in (
        named_written instance i u v bounded h.named,
        joined_lines (dims instance) z l r e (families_written left parts.0) (families_written right parts.1),
      )
  families_written (by_order {i = i} {u = u} {v = v} {l = l} {r = r} {z = z} h e left right) joining =
      let parts = joining_parts l r (subst AreJoining e joining) in (
        named_written instance i u v bounded h.named,
        joined_lines (dims instance) z l r e (families_written left parts.0) (families_written right parts.1),
      )
