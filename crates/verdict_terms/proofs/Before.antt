-- The order in which boxes take one another's place: it is strict, and a chain of it is shortened.
use Rattle.std.proofs.Common.{◌≡◌, ℕ, ◌<◌, ◌≤◌, ◌⊎◌, inl, inr, sym, ap, ◌∙◌, arith, true, false, not}
use Rattle.std.proofs.Common.{nat_le, nat_lt}
use Rattle.std.specs.List.{range_with_len}
use Rattle.std.proofs.lemmas.Bool.{true≢false, cases_Bool, and_parts, and_from, or_cases, leb-true, le-leb, ltb-true, lt-ltb}
use Rattle.packing_terms.specs.Packing.{PlainInstance, dims, side, value}
use Rattle.packing_terms.proofs.Sets.{or_true}
use Rattle.packing_terms.proofs.Members.{all_at, all_from, in_range, range_in}
use Rattle.verdict_terms.specs.Exchanges.{replaces, comes_before}

module _ (instance : PlainInstance) where
  module _ (u v : ℕ) (r : replaces instance u v ≡ true) where
    pub no_longer : (i : ℕ) → i < dims instance → side instance u i ≤ side instance v i
    no_longer i l =
        leb-true (side instance u i) (side instance v i)
        (all_at (λ j. nat_le (side instance u j) (side instance v j)) i (range_with_len 0 (dims instance))
        (and_parts _ _ r).0 (in_range 0 (dims instance) i (omega arith) (omega (arith, l))))

    pub no_less : value instance v ≤ value instance u
    no_less = leb-true (value instance v) (value instance u) (and_parts _ _ r).1

  replaces_from : (u v : ℕ) → ((i : ℕ) → i < dims instance → side instance u i ≤ side instance v i)
      → value instance v ≤ value instance u → replaces instance u v ≡ true
  replaces_from u v shorter worth =
      and_from _ _ (all_from (λ j. nat_le (side instance u j) (side instance v j)) (range_with_len 0 (dims instance))
      (λ i h. let p = range_in 0 (dims instance) i h in
      le-leb (side instance u i) (side instance v i) (shorter i (omega (arith, p.1)))))
      (le-leb (value instance v) (value instance u) worth)

  replaces_itself : (v : ℕ) → replaces instance v v ≡ true
  replaces_itself v = replaces_from v v (λ i l. omega arith) (omega arith)

  replaces_chain : (u v w : ℕ) → replaces instance u v ≡ true → replaces instance v w ≡ true → replaces instance u w ≡ true
  replaces_chain u v w r s =
      replaces_from u w
      (λ i l. let a = no_longer u v r i l in let b = no_longer v w s i l in omega (arith, a, b))
      (let a = no_less u v r in let b = no_less v w s in omega (arith, a, b))

  pub before_replaces : (u v : ℕ) → comes_before instance u v ≡ true → replaces instance u v ≡ true
  before_replaces u v b = (and_parts _ _ b).0

  -- of two boxes that replace each other the first has the lower number
  lower : (u v : ℕ) → comes_before instance u v ≡ true → replaces instance v u ≡ true → u < v
  lower u v b r = go (or_cases _ _ (and_parts (replaces instance u v) _ b).1)
    where
      go : (not (replaces instance v u) ≡ true) ⊎ (nat_lt u v ≡ true) → u < v
      go (inl n) = absurd (true≢false (sym n ∙ ap not r))
      go (inr l) = ltb-true u v l

  pub before_itself : (v : ℕ) → comes_before instance v v ≡ false
  before_itself v = go (cases_Bool (comes_before instance v v))
    where
      go : (comes_before instance v v ≡ true) ⊎ (comes_before instance v v ≡ false) → comes_before instance v v ≡ false
      go (inl b) = absurd (let l = lower v v b (replaces_itself v) in omega (arith, l))
      go (inr b) = b

  pub before_chain : (u v w : ℕ) → comes_before instance u v ≡ true → comes_before instance v w ≡ true
      → comes_before instance u w ≡ true
  before_chain u v w a b =
      and_from _ _ (replaces_chain u v w (before_replaces u v a) (before_replaces v w b))
      (or_true _ _ (go (cases_Bool (replaces instance w u))))
    where
      go : (replaces instance w u ≡ true) ⊎ (replaces instance w u ≡ false)
          → (not (replaces instance w u) ≡ true) ⊎ (nat_lt u w ≡ true)
      go (inl r) =
          let first = lower u v a (replaces_chain v w u (before_replaces v w b) r) in
          let second = lower v w b (replaces_chain w u v r (before_replaces u v a)) in
          inr (lt-ltb u w (omega (arith, first, second)))
      go (inr r) = inl (ap not r)
