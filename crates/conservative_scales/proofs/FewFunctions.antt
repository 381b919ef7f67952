-- A dimension has few functions.
use Rattle.std.proofs.Common.{◌≡◌, ℕ, zero, suc, ◌+◌, ◌-◌, ◌*◌, ◌/◌, ◌<◌, ◌≤◌, refl, sym, arith, Bool, true, false, cond}
use Rattle.std.proofs.Common.{◌||◌, eqb, List, [], ◌∷◌, map, length}
use Rattle.std.specs.List.{filter, range_with_len}
use Rattle.std.proofs.lemmas.Bool.{eqb-true}
use Rattle.std.proofs.lemmas.List.{length-map, length-append}
use Rattle.packing_terms.specs.Packing.{PlainInstance, box_count, container_side, side}
use Rattle.packing_terms.specs.declared.ScaleFn.TheVariants.{Cut, Count}
use Rattle.packing_terms.specs.Tuples.{any_below, thresholds_above, functions_of}

none_pass : (p : ℕ → Bool) (x a m : ℕ) → ((e : ℕ) → p e ≡ true → e ≡ x) → x < a
    → length (filter p (range_with_len a m)) ≡ 0
none_pass p x a zero only l = refl
none_pass p x a (suc m) only l = go (p a) refl (none_pass p x (a + 1) m only (omega arith))
  where
    go : (b : Bool) → p a ≡ b → length (filter p (range_with_len (a + 1) m)) ≡ 0
        → length (cond b (a ∷ filter p (range_with_len (a + 1) m)) (filter p (range_with_len (a + 1) m))) ≡ 0
    go true e h = let s = only a e in absurd (omega (arith, s, l))
    go false e h = h

-- where one number alone passes, a range has at most one
one_passes : (p : ℕ → Bool) (x a m : ℕ) → ((e : ℕ) → p e ≡ true → e ≡ x) → length (filter p (range_with_len a m)) ≤ 1
one_passes p x a zero only = omega arith
one_passes p x a (suc m) only = go (p a) refl (one_passes p x (a + 1) m only)
  where
    go : (b : Bool) → p a ≡ b → length (filter p (range_with_len (a + 1) m)) ≤ 1
        → length (cond b (a ∷ filter p (range_with_len (a + 1) m)) (filter p (range_with_len (a + 1) m))) ≤ 1
    go true e h =
        let s = only a e in
        let n = none_pass p x (a + 1) m only (omega (arith, s)) in omega (arith, n)
    go false e h = h

either_passes : (p q : ℕ → Bool) (xs : List ℕ)
    → length (filter (λ e. p e || q e) xs) ≤ length (filter p xs) + length (filter q xs)
either_passes p q [] = omega arith
either_passes p q (x ∷ xs) = go (p x) (q x) (either_passes p q xs)
  where
    go : (b d : Bool) → length (filter (λ e. p e || q e) xs) ≤ length (filter p xs) + length (filter q xs)
        → length (cond (b || d) (x ∷ filter (λ e. p e || q e) xs) (filter (λ e. p e || q e) xs))
        ≤ length (cond b (x ∷ filter p xs) (filter p xs)) + length (cond d (x ∷ filter q xs) (filter q xs))
    go true true h = omega (arith, h)
    go true false h = omega (arith, h)
    go false true h = omega (arith, h)
    go false false h = h

nothing_passes : (xs : List ℕ) → length (filter (λ e. false) xs) ≤ 0
nothing_passes [] = omega arith
nothing_passes (x ∷ xs) = nothing_passes xs

any_passes : (n : ℕ) (f : ℕ → ℕ) (a m : ℕ)
    → length (filter (λ e. any_below n (λ v. eqb (f v) e)) (range_with_len a m)) ≤ n
any_passes zero f a m = nothing_passes (range_with_len a m)
any_passes (suc n) f a m =
    let both = either_passes (λ e. any_below n (λ v. eqb (f v) e)) (λ e. eqb (f n) e) (range_with_len a m) in
    let first = any_passes n f a m in
    let last = one_passes (λ e. eqb (f n) e) (f n) a m (λ e h. sym (eqb-true _ _ h)) in
    omega (arith, both, first, last)

few_thresholds : (instance : PlainInstance) (i : ℕ) → length (thresholds_above instance i 0) ≤ box_count instance + 1
few_thresholds instance i =
    let range = range_with_len (0 + 1) (container_side instance i / 2 - 0) in
    let both = either_passes (λ e. eqb e (container_side instance i / 2))
    (λ e. any_below (box_count instance) (λ v. eqb (side instance v i) e)) (range_with_len (0 + 1) (container_side instance i / 2 - 0)) in
    let half = one_passes (λ e. eqb e (container_side instance i / 2)) (container_side instance i / 2) (0 + 1)
    (container_side instance i / 2 - 0) (λ e h. eqb-true _ _ h) in
    let sides = any_passes (box_count instance) (λ v. side instance v i) (0 + 1) (container_side instance i / 2 - 0) in
    omega (arith, both, half, sides)

pub few_functions : (instance : PlainInstance) (i : ℕ) → length (functions_of instance i) ≤ 2 * box_count instance + 7
few_functions instance i =
    let few = few_thresholds instance i in
    let cuts = length-map (thresholds_above instance i 0) (λ e. Cut e) in
    let counts = length-map (thresholds_above instance i 0) (λ e. Count e) in
    let both = length-append (map (λ e. Cut e) (thresholds_above instance i 0))
    (map (λ e. Count e) (thresholds_above instance i 0)) in
    omega (arith, few, cuts, counts, both)
