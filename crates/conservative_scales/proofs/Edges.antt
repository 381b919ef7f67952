-- The next of the rising parameters.
use Rattle.std.proofs.Common.{◌≡◌, ℕ, zero, suc, ◌+◌, ◌-◌, ◌/◌, ◌<◌, ◌≤◌, ◌⊎◌, inl, inr, refl, sym, ap, ◌∙◌, arith}
use Rattle.std.proofs.Common.{Bool, true, false, eqb, ◌∷◌}
use Rattle.std.specs.List.{filter, range_with_len}
use Rattle.std.proofs.lemmas.Bool.{cases_eq, or_cases, or_left, or_right, true≢false, eqb-true, eq-eqb}
use Rattle.packing_terms.specs.Packing.{PlainInstance, box_count, container_side, side}
use Rattle.packing_terms.specs.Tuples.{any_below, is_threshold, thresholds_above, functions_after}
use Rattle.packing_terms.specs.declared.ScaleFn.TheVariants.{Step}

pub any_at : (n : ℕ) (f : ℕ → Bool) (v : ℕ) → v < n → f v ≡ true → any_below n f ≡ true
any_at zero f v l e = absurd (omega arith)
any_at (suc n) f v l e = go (cases_eq v n) (λ k. any_at n f v k e)
  where
    go : (v ≡ n) ⊎ (v ≡ n → ⊥) → (v < n → any_below n f ≡ true) → any_below (suc n) f ≡ true
    go (inl i) rest = let k : f n ≡ true = ap f (sym i) ∙ e in rw k (or_right (any_below n f) true refl)
    go (inr i) rest = or_left (any_below n f) (f n) (rest (omega arith))

-- an element that passes
pub any_from : (n : ℕ) (f : ℕ → Bool) → any_below n f ≡ true → (v : ℕ) × (v < n) × (f v ≡ true)
any_from zero f e = absurd (true≢false (sym e))
any_from (suc n) f e = go (or_cases _ _ e) (any_from n f)
  where
    go : (any_below n f ≡ true) ⊎ (f n ≡ true) → (any_below n f ≡ true → (v : ℕ) × (v < n) × (f v ≡ true))
        → (v : ℕ) × (v < suc n) × (f v ≡ true)
    go (inl i) rest = let h = rest i in let k = h.1 in (h.0, omega (arith, k), h.2)
    go (inr i) rest = (n, omega arith, i)

-- the first of a range that passes
pub filter_first : (p : ℕ → Bool) (a n x m : ℕ) → a ≤ x → x + 1 + m ≡ a + n → p x ≡ true
    → ((y : ℕ) → a ≤ y → y < x → p y ≡ false)
    → filter p (range_with_len a n) ≡ x ∷ filter p (range_with_len (x + 1) m)
filter_first p a zero x m l e t h = absurd (omega arith)
filter_first p a (suc n) x m l e t h =
    go (cases_eq x a) (λ f. filter_first p (a + 1) n x m (omega arith) (omega arith) t (λ y i j. h y (omega arith) j))
  where
    go : (x ≡ a) ⊎ (x ≡ a → ⊥) → ((x ≡ a → ⊥)
        → filter p (range_with_len (a + 1) n) ≡ x ∷ filter p (range_with_len (x + 1) m))
        → filter p (range_with_len a (suc n)) ≡ x ∷ filter p (range_with_len (x + 1) m)
    go (inl f) rest =
        let k : n ≡ m = omega arith in
        let s : p a ≡ true = ap p (sym f) ∙ t in
        rw (s, k, f) refl
    go (inr f) rest = let s : p a ≡ false = h a (omega arith) (omega arith) in rw s (rest f)

-- the least parameter above the given one
pub record IsNext (instance : PlainInstance) (i low next : ℕ) : Type 0 where
  pub above : low < next
  pub most : next ≤ container_side instance i / 2
  pub edge : is_threshold instance i next ≡ true
  pub least : (v : ℕ) → v < box_count instance → low < side instance v i → next ≤ side instance v i

pub next_is : (instance : PlainInstance) (i low next : ℕ) → IsNext instance i low next
    → thresholds_above instance i low ≡ next ∷ thresholds_above instance i next
next_is instance i low next h =
    let a = h.above in
    let m = h.most in
    filter_first (λ e. is_threshold instance i e) (low + 1) (container_side instance i / 2 - low) next
    (container_side instance i / 2 - next)
    (omega (arith, a)) (omega (arith, a, m)) h.edge
    (λ y k l. between y (omega (arith, k)) l (is_threshold instance i y) refl)
  where
    between : (y : ℕ) → low < y → y < next → (b : Bool) → is_threshold instance i y ≡ b → b ≡ false
    between y k l false e = refl
    between y k l true e = absurd (parts (or_cases _ _ e))
      where
        parts : (eqb y (container_side instance i / 2) ≡ true)
            ⊎ (any_below (box_count instance) (λ v. eqb (side instance v i) y) ≡ true) → ⊥
        parts (inl f) = let g = eqb-true _ _ f in let m = h.most in omega (arith, g, m)
        parts (inr f) =
            let w = any_from (box_count instance) (λ v. eqb (side instance v i) y) f in
            let g : side instance w.0 i ≡ y = eqb-true _ _ w.2 in
            let q = h.least w.0 w.1 (omega (arith, g, k)) in omega (arith, g, q, l)

-- the least parameter among the first n boxes
pub record IsBest (instance : PlainInstance) (i low n next : ℕ) : Type 0 where
  pub above : low < next
  pub most : next ≤ container_side instance i / 2
  pub edge : is_threshold instance i next ≡ true
  pub least : (v : ℕ) → v < n → low < side instance v i → next ≤ side instance v i

pub half_best : (instance : PlainInstance) (i low half : ℕ) → half ≡ container_side instance i / 2 → low < half
    → IsBest instance i low 0 half
half_best instance i low half e l = record {
  above = l;
  most = omega arith;
  edge = or_left _ _ (eq-eqb half (container_side instance i / 2) e);
  least = λ v m. absurd (omega arith);
}

pub best_takes : (instance : PlainInstance) (i low n next s : ℕ) → IsBest instance i low n next → s ≡ side instance n i
    → n < box_count instance
    → low < s → s < next → IsBest instance i low (n + 1) s
best_takes instance i low n next s h e m a b = record {
  above = a;
  most = let k = h.most in omega (arith, k);
  edge = or_right _ _ (any_at (box_count instance) (λ v. eqb (side instance v i) s) n m (eq-eqb _ _ (sym e)));
  least = λ v l k. go v (cases_eq v n) l k;
}
  where
    go : (v : ℕ) → (v ≡ n) ⊎ (v ≡ n → ⊥) → v < n + 1 → low < side instance v i → s ≤ side instance v i
    go v (inl f) l k = let g : side instance v i ≡ s = ap (λ u. side instance u i) f ∙ sym e in omega (arith, g)
    go v (inr f) l k = let j = h.least v (omega arith) k in omega (arith, j)

pub best_keeps : (instance : PlainInstance) (i low n next s : ℕ) → IsBest instance i low n next → s ≡ side instance n i
    → (low < s → next ≤ s) → IsBest instance i low (n + 1) next
best_keeps instance i low n next s h e k = record {
  above = h.above;
  most = h.most;
  edge = h.edge;
  least = λ v l m. go v (cases_eq v n) l m;
}
  where
    go : (v : ℕ) → (v ≡ n) ⊎ (v ≡ n → ⊥) → v < n + 1 → low < side instance v i → next ≤ side instance v i
    go v (inl f) l m = let g : side instance v i ≡ s = ap (λ u. side instance u i) f ∙ sym e in let j =
        k (omega (arith, g, m)) in omega (arith, g, j)
    go v (inr f) l m = h.least v (omega arith) m

pub best_is : (instance : PlainInstance) (i low n next : ℕ) → IsBest instance i low n next → box_count instance ≤ n
    → thresholds_above instance i low ≡ next ∷ thresholds_above instance i next
best_is instance i low n next h l =
    next_is instance i low next (record
    { above = h.above; most = h.most; edge = h.edge; least = λ v m k. h.least v (omega arith) k })

pub steps_after : (instance : PlainInstance) (i k : ℕ) → k < 4
    → functions_after instance i (Step k) ≡ Step (k + 1) ∷ functions_after instance i (Step (k + 1))
steps_after instance i k l = let e : 4 - k ≡ suc (4 - (k + 1)) = omega arith in rw e refl
