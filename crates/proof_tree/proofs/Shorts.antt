-- Lists of tokens that are held in a few bytes each.
use Rattle.std.proofs.Common.{◌≡◌, ℕ, suc, ◌+◌, ◌<◌, ◌≤◌, refl, sym, ap, ◌∙◌, arith, List, [], ◌∷◌, ◌++◌, length}
use Rattle.std.proofs.Common.{Option, Some, None, drop, get_or, append_assoc, append-nil}
use Rattle.std.proofs.lemmas.List.{drop_more, drop_all}
use Rattle.packing_terms.specs.Tokens.{PlainToken}
use Rattle.proof_tree.specs.declared.short.Short.{Short}
use Rattle.proof_tree.specs.Shorts.{shown, put_shown, listed, count_wide, wide_count}

pub wide_append : (xs ys : List Short) → wide_count (xs ++ ys) ≡ wide_count xs + wide_count ys
wide_append [] ys = omega arith
wide_append (x ∷ xs) ys = let e = wide_append xs ys in omega (arith, e)

-- two lists, one behind the other
pub listed_append : (xs ys : List Short) (us ws : List PlainToken) → wide_count xs ≡ length us
    → listed (xs ++ ys) (us ++ ws) ≡ listed xs us ++ listed ys ws
listed_append [] ys [] ws e = refl
listed_append [] ys (u ∷ us) ws e = absurd (omega (arith, e))
listed_append (x ∷ xs) ys us ws e = go (shown x) us e (λ vs f. listed_append xs ys vs ws f)
  where
    go : (o : Option PlainToken) (vs : List PlainToken) → count_wide o + wide_count xs ≡ length vs
        → ((zs : List PlainToken) → wide_count xs ≡ length zs
        → listed (xs ++ ys) (zs ++ ws) ≡ listed xs zs ++ listed ys ws)
        → put_shown o (listed (xs ++ ys)) (vs ++ ws) ≡ put_shown o (listed xs) vs ++ listed ys ws
    go (Some t) vs f more = ap (λ (zs : List PlainToken). t ∷ zs) (more vs (omega (arith, f)))
    go None [] f more = absurd (omega (arith, f))
    go None (v ∷ vs) f more = ap (λ (zs : List PlainToken). v ∷ zs) (more vs (omega (arith, f)))

-- as many tokens as there are places
pub listed_length : (xs : List Short) (us : List PlainToken) → wide_count xs ≡ length us
    → length (listed xs us) ≡ length xs
listed_length [] us e = refl
listed_length (x ∷ xs) us e = go (shown x) us e (λ vs f. listed_length xs vs f)
  where
    go : (o : Option PlainToken) (vs : List PlainToken) → count_wide o + wide_count xs ≡ length vs
        → ((zs : List PlainToken) → wide_count xs ≡ length zs → length (listed xs zs) ≡ length xs)
        → length (put_shown o (listed xs) vs) ≡ suc (length xs)
    go (Some t) vs f more = ap suc (more vs (omega (arith, f)))
    go None [] f more = absurd (omega (arith, f))
    go None (v ∷ vs) f more = ap suc (more vs (omega (arith, f)))

-- one more that stands for itself
pub listed_short : (xs : List Short) (s : Short) (us : List PlainToken) → wide_count xs ≡ length us
    → listed (xs ++ s ∷ []) us ≡ listed xs us ++ listed (s ∷ []) []
listed_short xs s us e = ap (listed (xs ++ s ∷ [])) (sym (append-nil us)) ∙ listed_append xs (s ∷ []) us [] e

-- what one stands for, before the others
put_next : (done ts new whole : List PlainToken) (t : PlainToken) → done ++ t ∷ ts ≡ whole → new ≡ done ++ t ∷ []
    → new ++ ts ≡ whole
put_next done ts new whole t h e = ap (λ (us : List PlainToken). us ++ ts) e ∙ (append_assoc done (t ∷ []) ts ∙ h)

-- the loop over the tokens: `i` are done, `n` of them wide ones
module _ (ss : List Short) (ws whole done : List PlainToken) (i n : ℕ) (d : Short) (there : i < length ss)
    (left : done ++ listed (drop i ss) (drop n ws) ≡ whole) where
  told_on : done ++ put_shown (shown (get_or ss i d)) (listed (drop (i + 1) ss)) (drop n ws) ≡ whole
  told_on = ap (λ (xs : List Short). done ++ listed xs (drop n ws)) (sym (drop_more ss i d there)) ∙ left

  pub told_shown : (new : List PlainToken) (t : PlainToken) → shown (get_or ss i d) ≡ Some t → new ≡ done ++ t ∷ []
      → new ++ listed (drop (i + 1) ss) (drop n ws) ≡ whole
  told_shown new t e f = put_next done (listed (drop (i + 1) ss) (drop n ws)) new whole t
      (ap (λ o. done ++ put_shown o (listed (drop (i + 1) ss)) (drop n ws)) (sym e) ∙ told_on) f

  pub told_wide : (new : List PlainToken) (t u : PlainToken) → shown (get_or ss i d) ≡ None → n < length ws
      → t ≡ get_or ws n u → new ≡ done ++ t ∷ [] → new ++ listed (drop (i + 1) ss) (drop (n + 1) ws) ≡ whole
  told_wide new t u e l g f =
      put_next done (listed (drop (i + 1) ss) (drop (n + 1) ws)) new whole t
      (ap (λ x. done ++ x ∷ listed (drop (i + 1) ss) (drop (n + 1) ws)) g
      ∙ (ap (λ us. done ++ put_shown None (listed (drop (i + 1) ss)) us) (sym (drop_more ws n u l))
      ∙ (ap (λ o. done ++ put_shown o (listed (drop (i + 1) ss)) (drop n ws)) (sym e) ∙ told_on))) f

  pub told_missing : shown (get_or ss i d) ≡ None → length ws ≤ n
      → done ++ listed (drop (i + 1) ss) (drop n ws) ≡ whole
  told_missing e l =
      let none : drop n ws ≡ [] = drop_all n ws l in
      ap (λ us. done ++ listed (drop (i + 1) ss) us) none
      ∙ (ap (λ us. done ++ put_shown None (listed (drop (i + 1) ss)) us) (sym none)
      ∙ (ap (λ o. done ++ put_shown o (listed (drop (i + 1) ss)) (drop n ws)) (sym e) ∙ told_on))

-- the first `i` short tokens, `n` of them wide, are a list of tokens that has the property `P`
pub record AreTold (ss : List Short) (ws : List PlainToken) (i n : ℕ) (P : List PlainToken → Type 0) : Type 0 where
  pub done : List PlainToken
  pub left : done ++ listed (drop i ss) (drop n ws) ≡ listed ss ws
  pub holds : P done
