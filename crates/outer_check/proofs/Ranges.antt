-- Boxes by rising number, as those of a range that pass a test.
use Rattle.std.proofs.Common.{◌≡◌, ℕ, zero, suc, ◌+◌, ◌<◌, ◌≤◌, ◌⊎◌, inl, inr, refl, sym, ap, ◌∙◌, arith, Bool, true}
use Rattle.std.proofs.Common.{false, cond, ◌||◌, ◌==◌, [], ◌∷◌}
use Rattle.std.specs.List.{filter, range_with_len}
use Rattle.std.proofs.lemmas.Bool.{cases_order, lt-ltb, le-ltb, eq-eqb, ne_eqb}
use Rattle.packing_terms.specs.OuterRefutation.{insert_box, has_box}

-- a box below a range comes in front of those that pass
pub insert_below : (p : ℕ → Bool) (v b n : ℕ) → v < b → insert_box v (filter p (range_with_len b n)) ≡ v
    ∷ filter p (range_with_len b n)
insert_below p v b zero l = refl
insert_below p v b (suc n) l = go (p b) (insert_below p v (b + 1) n (omega (arith, l)))
  where
    go : (t : Bool) → insert_box v (filter p (range_with_len (b + 1) n)) ≡ v ∷ filter p (range_with_len (b + 1) n)
        → insert_box v (cond t (b ∷ filter p (range_with_len (b + 1) n)) (filter p (range_with_len (b + 1) n)))
        ≡ v ∷ cond t (b ∷ filter p (range_with_len (b + 1) n)) (filter p (range_with_len (b + 1) n))
    go true rest = rw (lt-ltb v b l) refl
    go false rest = rest

-- a test that differs at a box below the range alone
pub same_above : (p : ℕ → Bool) (v b n : ℕ) → v < b → filter (λ u. (v == u) || p u) (range_with_len b n)
    ≡ filter p (range_with_len b n)
same_above p v b zero l = refl
same_above p v b (suc n) l =
    rw (ne_eqb v b (λ e. omega (arith, l, e)))
    (ap (λ r. cond (p b) (b ∷ r) r) (same_above p v (b + 1) n (omega (arith, l))))

-- a box more that passes is put among the others
pub insert_passes : (p : ℕ → Bool) (v a n : ℕ) → a ≤ v → v < a + n → p v ≡ false
    → filter (λ u. (v == u) || p u) (range_with_len a n) ≡ insert_box v (filter p (range_with_len a n))
insert_passes p v a zero l m not = absurd (omega (arith, l, m))
insert_passes p v a (suc n) l m not =
    go (cases_order v a) (λ k. insert_passes p v (a + 1) n (omega (arith, k)) (omega (arith, m)) not)
  where
    by_test : (t : Bool) → filter (λ u. (v == u) || p u) (range_with_len (a + 1) n)
        ≡ insert_box v (filter p (range_with_len (a + 1) n)) → a < v
        → cond t (a ∷ filter (λ u. (v == u) || p u) (range_with_len (a + 1) n))
        (filter (λ u. (v == u) || p u) (range_with_len (a + 1) n))
        ≡ insert_box v (cond t (a ∷ filter p (range_with_len (a + 1) n)) (filter p (range_with_len (a + 1) n)))
    by_test true rest k = rw (le-ltb v a (omega (arith, k))) (ap (λ r. a ∷ r) rest)
    by_test false rest k = rest

    go : (v ≡ a) ⊎ ((v < a) ⊎ (a < v))
        → (a < v → filter (λ u. (v == u) || p u) (range_with_len (a + 1) n)
        ≡ insert_box v (filter p (range_with_len (a + 1) n)))
        → cond ((v == a) || p a) (a ∷ filter (λ u. (v == u) || p u) (range_with_len (a + 1) n))
        (filter (λ u. (v == u) || p u) (range_with_len (a + 1) n))
        ≡ insert_box v (cond (p a) (a ∷ filter p (range_with_len (a + 1) n)) (filter p (range_with_len (a + 1) n)))
    go (inl e) rest =
        rw (eq-eqb v a e, sym (ap p e) ∙ not)
        (ap (λ r. a ∷ r) (same_above p v (a + 1) n (omega (arith, e)))
        ∙ (sym (ap (λ x. x ∷ filter p (range_with_len (a + 1) n)) e)
        ∙ sym (insert_below p v (a + 1) n (omega (arith, e)))))
    go (inr (inl k)) rest = absurd (omega (arith, k, l))
    go (inr (inr k)) rest = rw (ne_eqb v a (λ e. omega (arith, k, e))) (by_test (p a) (rest k) k)

-- whether a box of the range passes
pub has_above : (p : ℕ → Bool) (v b n : ℕ) → v < b → has_box v (filter p (range_with_len b n)) ≡ false
has_above p v b zero l = refl
has_above p v b (suc n) l = go (p b) (has_above p v (b + 1) n (omega (arith, l)))
  where
    go : (t : Bool) → has_box v (filter p (range_with_len (b + 1) n)) ≡ false
        → has_box v (cond t (b ∷ filter p (range_with_len (b + 1) n)) (filter p (range_with_len (b + 1) n))) ≡ false
    go true rest = rw (ne_eqb b v (λ e. omega (arith, l, e))) rest
    go false rest = rest

pub has_passing : (p : ℕ → Bool) (v a n : ℕ) → a ≤ v → v < a + n → has_box v (filter p (range_with_len a n)) ≡ p v
has_passing p v a zero l m = absurd (omega (arith, l, m))
has_passing p v a (suc n) l m =
    go (cases_order v a) (λ k. has_passing p v (a + 1) n (omega (arith, k)) (omega (arith, m)))
  where
    at_own : (t : Bool) → p a ≡ t → v ≡ a
        → has_box v (cond t (a ∷ filter p (range_with_len (a + 1) n)) (filter p (range_with_len (a + 1) n))) ≡ p v
    at_own true f e = rw (eq-eqb a v (sym e)) (sym (ap p e ∙ f))
    at_own false f e = has_above p v (a + 1) n (omega (arith, e)) ∙ sym (ap p e ∙ f)

    later : (t : Bool) → a < v → has_box v (filter p (range_with_len (a + 1) n)) ≡ p v
        → has_box v (cond t (a ∷ filter p (range_with_len (a + 1) n)) (filter p (range_with_len (a + 1) n))) ≡ p v
    later true k rest = rw (ne_eqb a v (λ e. omega (arith, k, e))) rest
    later false k rest = rest

    go : (v ≡ a) ⊎ ((v < a) ⊎ (a < v)) → (a < v → has_box v (filter p (range_with_len (a + 1) n)) ≡ p v)
        → has_box v (cond (p a) (a ∷ filter p (range_with_len (a + 1) n)) (filter p (range_with_len (a + 1) n))) ≡ p v
    go (inl e) rest = at_own (p a) refl e
    go (inr (inl k)) rest = absurd (omega (arith, k, l))
    go (inr (inr k)) rest = later (p a) k (rest k)

-- tests that agree on the range
pub filter_same : (p q : ℕ → Bool) (a n : ℕ) → ((u : ℕ) → a ≤ u → u < a + n → p u ≡ q u)
    → filter p (range_with_len a n) ≡ filter q (range_with_len a n)
filter_same p q a zero same = refl
filter_same p q a (suc n) same =
    rw (same a (omega arith) (omega arith))
    (ap (λ r. cond (q a) (a ∷ r) r) (filter_same p q (a + 1) n (λ u l m. same u (omega (arith, l)) (omega (arith, m)))))

-- nothing passes
pub filter_none : (a n : ℕ) → filter (λ u. false) (range_with_len a n) ≡ []
filter_none a zero = refl
filter_none a (suc n) = filter_none (a + 1) n
