-- A list of tokens that is parted, and its lines.
use Rattle.std.proofs.Common.{◌≡◌, ℕ, ◌+◌, ◌<◌, ◌≤◌, refl, sym, ap, ap₂, ◌∙◌, arith, List, [], ◌∷◌, ◌++◌, length}
use Rattle.std.proofs.Common.{take, drop, get_or, map, Option, Some, None, append-nil, Bool, true, false}
use Rattle.std.proofs.lemmas.Bool.{true≢false}
use Rattle.std.proofs.Math.Seq.{take-append_seam, drop-append_seam}
use Rattle.std.proofs.lemmas.List.{take-append-drop, length-take-le, length-drop, length-map, map_push}
use Rattle.std.proofs.lemmas.List.{take_more, drop_all, flat_map_more}
use Rattle.packing_terms.specs.Tokens.{PlainToken}
use Rattle.text_terms.specs.Spelling.{spaced, lines_text}
use Rattle.text_terms.specs.TokenLines.{token_words}
use Rattle.proof_tree.specs.declared.short.Short.{Short}
use Rattle.proof_tree.specs.declared.token.Token.{Token}
use Rattle.proof_tree.specs.Plain.{plain_token}
use Rattle.proof_tree.specs.Lines.{token_line, token_text}
use Rattle.proof_tree.specs.Shorts.{shown, listed, count_wide, wide_count, is_none_shown}
use Rattle.proof_tree.proofs.Shorts.{wide_append, listed_append, listed_length}

-- how many of the first stand for a wide one, and how many of the others
module _ (ss : List Short) (ws : List PlainToken) (at : ℕ) (all : wide_count ss ≡ length ws)
    (inside : at ≤ length ss) where
  wides : ℕ
  wides = wide_count (take at ss)

  both : wide_count (take at ss) + wide_count (drop at ss) ≡ length ws
  both = sym (wide_append (take at ss) (drop at ss)) ∙ (ap wide_count (take-append-drop at ss) ∙ all)

  pub wides_within : wide_count (take at ss) ≤ length ws
  wides_within = let e = both in omega (arith, e)

  pub first_wides : wide_count (take at ss) ≡ length (take (wide_count (take at ss)) ws)
  first_wides = sym (length-take-le (wide_count (take at ss)) ws wides_within)

  pub rest_wides : wide_count (drop at ss) ≡ length (drop (wide_count (take at ss)) ws)
  rest_wides = let e = both in let m = length-drop (wide_count (take at ss)) ws in omega (arith, e, m)

  whole : listed ss ws ≡ listed (take at ss) (take (wide_count (take at ss)) ws)
      ++ listed (drop at ss) (drop (wide_count (take at ss)) ws)
  whole =
      ap₂ listed (sym (take-append-drop at ss)) (sym (take-append-drop (wide_count (take at ss)) ws))
      ∙ listed_append (take at ss) (drop at ss) (take (wide_count (take at ss)) ws)
      (drop (wide_count (take at ss)) ws) first_wides

  first_length : length (listed (take at ss) (take (wide_count (take at ss)) ws)) ≡ at
  first_length =
      listed_length (take at ss) (take (wide_count (take at ss)) ws) first_wides ∙ length-take-le at ss inside

  pub first_part : listed (take at ss) (take (wide_count (take at ss)) ws) ≡ take at (listed ss ws)
  first_part =
      sym (ap₂ take (sym first_length) whole
      ∙ take-append_seam (listed (take at ss) (take (wide_count (take at ss)) ws))
      (listed (drop at ss) (drop (wide_count (take at ss)) ws)))

  pub rest_part : listed (drop at ss) (drop (wide_count (take at ss)) ws) ≡ drop at (listed ss ws)
  rest_part =
      sym (ap₂ drop (sym first_length) whole
      ∙ drop-append_seam (listed (take at ss) (take (wide_count (take at ss)) ws))
      (listed (drop at ss) (drop (wide_count (take at ss)) ws)))

-- one more of those that stand for a wide one
pub count_more : (ss : List Short) (k : ℕ) (d : Short) → k < length ss
    → wide_count (take (k + 1) ss) ≡ wide_count (take k ss) + count_wide (shown (get_or ss k d))
count_more ss k d l =
    ap wide_count (take_more ss k d l) ∙ (wide_append (take k ss) (get_or ss k d ∷ [])
    ∙ (let e : wide_count (get_or ss k d ∷ []) ≡ count_wide (shown (get_or ss k d)) = omega arith in
    ap (λ n. wide_count (take k ss) + n) e))

-- the text of one token more
pub text_more : (ts : List PlainToken) (t : PlainToken)
    → token_text ts ++ token_line t ≡ token_text (ts ++ t ∷ [])
text_more ts t =
    flat_map_more (λ words. spaced words ++ 10 ∷ []) [] (map token_words ts) (token_words t)
    ∙ sym (ap lines_text (map_push token_words ts t))

-- what one that is wide counts, and one that isn't
pub wide_one : (o : Option PlainToken) (b : Bool) → b ≡ is_none_shown o → b ≡ true → count_wide o ≡ 1
wide_one None b e f = refl
wide_one (Some t) b e f = absurd (true≢false (sym f ∙ e))

pub wide_none : (o : Option PlainToken) (b : Bool) → b ≡ is_none_shown o → b ≡ false → count_wide o ≡ 0
wide_none (Some t) b e f = refl
wide_none None b e f = absurd (true≢false (sym e ∙ f))

-- what one that isn't wide shows, and that a wide one shows none
pub is_shown : (o : Option PlainToken) (b : Bool) → b ≡ is_none_shown o → b ≡ false
    → (t : PlainToken) × (o ≡ Some t)
is_shown (Some t) b e f = (t, refl)
is_shown None b e f = absurd (true≢false (sym e ∙ f))

pub is_hidden : (o : Option PlainToken) (b : Bool) → b ≡ is_none_shown o → b ≡ true → o ≡ None
is_hidden None b e f = refl
is_hidden (Some t) b e f = absurd (true≢false (sym f ∙ e))

-- one more is counted, if it is wide
pub count_on : (ss : List Short) (k n : ℕ) (d : Short) (b : Bool) → k < length ss → n ≡ wide_count (take k ss)
    → b ≡ is_none_shown (shown (get_or ss k d)) → b ≡ true → n + 1 ≡ wide_count (take (k + 1) ss)
count_on ss k n d b l h e f =
    let m = count_more ss k d l in
    let o = wide_one (shown (get_or ss k d)) b e f in
    omega (arith, m, o, h)

pub count_off : (ss : List Short) (k n : ℕ) (d : Short) (b : Bool) → k < length ss → n ≡ wide_count (take k ss)
    → b ≡ is_none_shown (shown (get_or ss k d)) → b ≡ false → n ≡ wide_count (take (k + 1) ss)
count_off ss k n d b l h e f =
    let m = count_more ss k d l in
    let o = wide_none (shown (get_or ss k d)) b e f in
    omega (arith, m, o, h)

-- all tokens are listed
pub all_told : (ss : List Short) (ws done : List PlainToken) (k n : ℕ)
    → done ++ listed (drop k ss) (drop n ws) ≡ listed ss ws → length ss ≤ k → done ≡ listed ss ws
all_told ss ws done k n left l =
    sym (append-nil done)
    ∙ (ap (λ (xs : List Short). done ++ listed xs (drop n ws)) (sym (drop_all k ss l)) ∙ left)

-- the number of wide tokens of a list is the same in memory and in its view
pub held_wides : (ss : List Short) (us : List Token) → wide_count ss ≡ length us
    → wide_count ss ≡ length (map plain_token us)
held_wides ss us e = e ∙ sym (length-map us plain_token)

pub held_inside : (ss : List Short) (us : List Token) (seen : List PlainToken) (at : ℕ) → wide_count ss ≡ length us
    → listed ss (map plain_token us) ≡ seen → at ≤ length seen → at ≤ length ss
held_inside ss us seen at e is l =
    let m = listed_length ss (map plain_token us) (held_wides ss us e) in
    let n = ap (λ (ts : List PlainToken). length ts) is in
    omega (arith, m, n, l)
