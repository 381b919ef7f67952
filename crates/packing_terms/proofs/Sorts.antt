-- Each class can be sorted: by selection, with a swap at a time.
use Rattle.std.proofs.Common.{◌≡◌, ◌≢◌, ℕ, zero, suc, ◌+◌, ◌<◌, ◌≤◌, ◌⊎◌, inl, inr, refl, sym, ap, subst, ◌∙◌, arith}
use Rattle.std.proofs.Common.{Bool, true, false, cond, eqb}
use Rattle.std.proofs.lemmas.Bool.{cases_Bool, cases_lt, cases_eq, eq-eqb, ne_eqb, true≢false}
use Rattle.packing_terms.specs.Orders.{IsEquivalence, Order}

-- k and j exchanged
abbrev swapped : ℕ → ℕ → ℕ → ℕ
swapped k j v = cond (eqb v k) j (cond (eqb v j) k v)

swapped_first : (k j v : ℕ) → v ≡ k → swapped k j v ≡ j
swapped_first k j v e = rw (eq-eqb v k e) refl

swapped_second : (k j v : ℕ) → k < j → v ≡ j → swapped k j v ≡ k
swapped_second k j v l e = rw (ne_eqb v k (λ f. omega (arith, e, f, l)), eq-eqb v j e) refl

swapped_other : (k j v : ℕ) → v ≢ k → v ≢ j → swapped k j v ≡ v
swapped_other k j v a b = rw (ne_eqb v k a, ne_eqb v j b) refl

-- what a swap does to a number
data Swap (k j v : ℕ) : Type 0 where
  first : v ≡ k → Swap k j v
  second : v ≡ j → Swap k j v
  other : v ≢ k → v ≢ j → Swap k j v

swap_of : (k j v : ℕ) → Swap k j v
swap_of k j v = go (cases_eq v k) (cases_eq v j)
  where
    go : (v ≡ k) ⊎ (v ≡ k → ⊥) → (v ≡ j) ⊎ (v ≡ j → ⊥) → Swap k j v
    go (inl e) f = first e
    go (inr a) (inl e) = second e
    go (inr a) (inr b) = other a b

module _ (key : ℕ → ℕ) (same : ℕ → ℕ → Bool) (equal : IsEquivalence same) where
  -- sorted up to k, and k sorted with those before j
  record Sorted (n k j : ℕ) : Type 0 where
    at : ℕ → ℕ
    within : (v : ℕ) → v < n → at v < n
    one_to_one : (u v : ℕ) → at u ≡ at v → u ≡ v
    in_class : (v : ℕ) → same v (at v) ≡ true
    rising : (u v : ℕ) → u < k → u < v → v < n → same u v ≡ true → key (at u) ≤ key (at v)
    here : (v : ℕ) → k < v → v < j → same k v ≡ true → key (at k) ≤ key (at v)

  -- k stays before j
  kept : (n k j : ℕ) (s : Sorted n k j) → (same k j ≡ true → key (s.at k) ≤ key (s.at j)) → Sorted n k (suc j)
  kept n k j s h = record {
    at = s.at;
    within = s.within;
    one_to_one = s.one_to_one;
    in_class = s.in_class;
    rising = s.rising;
    here = λ v l m e. go v l m e (cases_eq v j);
  }
    where
      go : (v : ℕ) → k < v → v < suc j → same k v ≡ true → (v ≡ j) ⊎ (v ≡ j → ⊥) → key (s.at k) ≤ key (s.at v)
      go v l m e (inl f) = subst (λ (x : ℕ). key (s.at k) ≤ key (s.at x)) (sym f)
          (h (ap (λ (x : ℕ). same k x) (sym f) ∙ e))
      go v l m e (inr a) = s.here v l (omega arith) e

  -- k and j are exchanged
  exchanged : (n k j : ℕ) → k < j → j < n → (s : Sorted n k j) → same k j ≡ true → key (s.at j) < key (s.at k)
      → Sorted n k (suc j)
  exchanged n k j kj jn s class low = record {
    at = λ v. s.at (swapped k j v);
    within = λ v l. s.within (swapped k j v) (inside v l (swap_of k j v));
    one_to_one = λ u v e. single u v (swap_of k j u) (swap_of k j v) (s.one_to_one (swapped k j u) (swapped k j v) e);
    in_class = λ v. equal.joined v (swapped k j v) (s.at (swapped k j v)) (classes v (swap_of k j v))
        (s.in_class (swapped k j v));
    rising = λ u v uk uv vn e. rises u v uk uv vn e (swap_of k j v);
    here = λ v l m e. heads v l m e (cases_eq v j);
  }
    where
      inside : (v : ℕ) → v < n → Swap k j v → swapped k j v < n
      inside v l (first e) = let f = swapped_first k j v e in omega (arith, f, jn)
      inside v l (second e) = let f = swapped_second k j v kj e in omega (arith, f, kj, jn)
      inside v l (other a b) = let f = swapped_other k j v a b in omega (arith, f, l)

      single : (u v : ℕ) → Swap k j u → Swap k j v → swapped k j u ≡ swapped k j v → u ≡ v
      single u v (first a) (first b) e = a ∙ sym b
      single u v (first a) (second b) e = let f = swapped_first k j u a in let g = swapped_second k j v kj b in
          omega (arith, e, f, g, kj)
      single u v (first a) (other b c) e = absurd (c (sym (swapped_other k j v b c) ∙ (sym e ∙ swapped_first k j u a)))
      single u v (second a) (first b) e = let f = swapped_first k j v b in let g = swapped_second k j u kj a in
          omega (arith, e, f, g, kj)
      single u v (second a) (second b) e = a ∙ sym b
      single u v (second a) (other b c) e =
          absurd (b (sym (swapped_other k j v b c) ∙ (sym e ∙ swapped_second k j u kj a)))
      single u v (other a b) (first c) e = absurd (b (sym (swapped_other k j u a b) ∙ (e ∙ swapped_first k j v c)))
      single u v (other a b) (second c) e = absurd (a (sym (swapped_other k j u a b) ∙ (e ∙ swapped_second k j v kj c)))
      single u v (other a b) (other c d) e = sym (swapped_other k j u a b) ∙ (e ∙ swapped_other k j v c d)

      classes : (v : ℕ) → Swap k j v → same v (swapped k j v) ≡ true
      classes v (first e) = rw (swapped_first k j v e, e) class
      classes v (second e) = rw (swapped_second k j v kj e, e) (equal.turned k j class)
      classes v (other a b) = rw (swapped_other k j v a b) (equal.itself v)

      rises : (u v : ℕ) → u < k → u < v → v < n → same u v ≡ true → Swap k j v
          → key (s.at (swapped k j u)) ≤ key (s.at (swapped k j v))
      rises u v uk uv vn e sw =
          let stays : swapped k j u ≡ u =
          swapped_other k j u (λ f. omega (arith, f, uk)) (λ f. omega (arith, f, uk, kj)) in
          rw stays (go sw)
        where
          go : Swap k j v → key (s.at u) ≤ key (s.at (swapped k j v))
          go (first f) = rw (swapped_first k j v f)
              (s.rising u j uk (omega arith) jn (equal.joined u k j (ap (λ (x : ℕ). same u x) (sym f) ∙ e) class))
          go (second f) = rw (swapped_second k j v kj f)
              (s.rising u k uk uk (omega arith)
              (equal.joined u j k (ap (λ (x : ℕ). same u x) (sym f) ∙ e) (equal.turned k j class)))
          go (other a b) = rw (swapped_other k j v a b) (s.rising u v uk uv vn e)

      heads : (v : ℕ) → k < v → v < suc j → same k v ≡ true → (v ≡ j) ⊎ (v ≡ j → ⊥)
          → key (s.at (swapped k j k)) ≤ key (s.at (swapped k j v))
      heads v l m e (inl f) = rw (swapped_first k j k refl, swapped_second k j v kj f) (omega arith)
      heads v l m e (inr a) =
          let stays : swapped k j v ≡ v = swapped_other k j v (λ f. omega (arith, f, l)) a in
          let h = s.here v l (omega arith) e in
          rw (swapped_first k j k refl, stays) (omega arith)

  one_more : (n k j : ℕ) → k < j → j < n → Sorted n k j → Sorted n k (suc j)
  one_more n k j kj jn s = go (cases_Bool (same k j)) (cases_lt (key (s.at j)) (key (s.at k)))
    where
      go : (same k j ≡ true) ⊎ (same k j ≡ false) → (key (s.at j) < key (s.at k)) ⊎ (key (s.at k) ≤ key (s.at j))
          → Sorted n k (suc j)
      go (inl e) (inl l) = exchanged n k j kj jn s e l
      go (inl e) (inr l) = kept n k j s (λ f. l)
      go (inr e) l = kept n k j s (λ f. absurd (true≢false (sym f ∙ e)))

  row : (m n k j : ℕ) → k < j → j + m ≡ n → Sorted n k j → Sorted n k n
  row zero n k j kj e s = subst (λ (x : ℕ). Sorted n k x) (let f : j ≡ n = omega arith in f) s
  row (suc m) n k j kj e s = row m n k (suc j) (omega arith) (omega arith) (one_more n k j kj (omega arith) s)

  next_row : (n k : ℕ) → Sorted n k n → Sorted n (suc k) (suc (suc k))
  next_row n k s = record {
    at = s.at;
    within = s.within;
    one_to_one = s.one_to_one;
    in_class = s.in_class;
    rising = λ u v uk uv vn e. go u v uk uv vn e (cases_eq u k);
    here = λ v l m e. absurd (omega arith);
  }
    where
      go : (u v : ℕ) → u < suc k → u < v → v < n → same u v ≡ true → (u ≡ k) ⊎ (u ≡ k → ⊥) → key (s.at u) ≤ key (s.at v)
      go u v uk uv vn e (inl f) = subst (λ (x : ℕ). key (s.at x) ≤ key (s.at v)) (sym f)
          (s.here v (omega arith) vn (ap (λ (x : ℕ). same x v) (sym f) ∙ e))
      go u v uk uv vn e (inr a) = s.rising u v (omega arith) uv vn e

  rows : (m n k : ℕ) → k + m ≡ n → Sorted n k (suc k) → Sorted n n (suc n)
  rows zero n k e s = subst (λ (x : ℕ). Sorted n x (suc x)) (let f : k ≡ n = omega arith in f) s
  rows (suc m) n k e s = rows m n (suc k) (omega arith) (next_row n k (row m n k (suc k) (omega arith) (omega arith) s))

  unsorted : (n : ℕ) → Sorted n 0 1
  unsorted n = record {
    at = λ v. v;
    within = λ v l. l;
    one_to_one = λ u v e. e;
    in_class = λ v. equal.itself v;
    rising = λ u v l. absurd (omega arith);
    here = λ v l m e. absurd (omega arith);
  }

  pub order : (n : ℕ) → Order key same n
  order n = go (rows n n 0 (omega arith) (unsorted n))
    where
      go : Sorted n n (suc n) → Order key same n
      go s = record {
        at = s.at;
        within = s.within;
        one_to_one = s.one_to_one;
        in_class = s.in_class;
        rising = λ u v uv vn e. s.rising u v (omega arith) uv vn e;
      }
