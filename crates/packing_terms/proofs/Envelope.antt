-- Any dual feasible function is dominated: by the most that a list of numbers with a given sum can have as images.
use Rattle.std.proofs.Common.{◌≡◌, ℕ, zero, suc, ◌+◌, ◌-◌, ◌<◌, ◌≤◌, ◌⊎◌, inl, inr, refl, arith, List, [], ◌∷◌, map}
use Rattle.std.proofs.Common.{max}
use Rattle.std.specs.List.{sum}
use Rattle.std.proofs.lemmas.Bool.{cases_lt}
use Rattle.std.proofs.lemmas.List.Sums.{sum_by-cons}
use Rattle.packing_terms.specs.Scales.{IsDualFeasible}
use Rattle.packing_terms.proofs.Superadditive.{IsDominated}

-- the greatest of g 0 .. g n
greatest : ℕ → (ℕ → ℕ) → ℕ
greatest zero g = g 0
greatest (suc n) g = max (greatest n g) (g (suc n))

at_most_greatest : (n : ℕ) (g : ℕ → ℕ) (x : ℕ) → x ≤ n → g x ≤ greatest n g
unfolding greatest
at_most_greatest zero g x l = let e : x ≡ 0 = omega arith in rw e (omega arith)
at_most_greatest (suc n) g x l = go (cases_lt x (suc n)) (at_most_greatest n g x)
  where
    go : (x < suc n) ⊎ (suc n ≤ x) → (x ≤ n → g x ≤ greatest n g) → g x ≤ max (greatest n g) (g (suc n))
    go (inl h) rest = let i = rest (omega arith) in omega (arith, i)
    go (inr h) rest = let e : x ≡ suc n = omega arith in rw e (omega arith)

-- it is one of them
greatest_is : (n : ℕ) (g : ℕ → ℕ) → (x : ℕ) × (x ≤ n) × (greatest n g ≡ g x)
unfolding greatest
greatest_is zero g = (0, omega arith, refl)
greatest_is (suc n) g = go (cases_lt (greatest n g) (g (suc n))) (greatest_is n g)
  where
    go : (greatest n g < g (suc n)) ⊎ (g (suc n) ≤ greatest n g) → (x : ℕ) × (x ≤ n) × (greatest n g ≡ g x)
        → (x : ℕ) × (x ≤ suc n) × (max (greatest n g) (g (suc n)) ≡ g x)
    go (inl h) w = (suc n, omega arith, omega arith)
    go (inr h) w = let l = w.1 in let e = w.2 in (w.0, omega (arith, l), omega (arith, e))

-- at most k numbers with a sum of at most x, none of them 0 but at the end: the most that their images sum to
most : ℕ → (ℕ → ℕ) → ℕ → ℕ
most zero f x = 0
most (suc k) f x = greatest x (λ y. f y + most k f (x - y))

-- some list of numbers from 0 has it
most_is : (k : ℕ) (f : ℕ → ℕ) (x : ℕ) → (ys : List ℕ) × (sum ys ≤ x) × (most k f x ≡ sum (map f ys))
unfolding most
most_is zero f x = ([], omega arith, refl)
most_is (suc k) f x = go (greatest_is x (λ y. f y + most k f (x - y))) (λ y. most_is k f (x - y))
  where
    go : (y : ℕ) × (y ≤ x) × (greatest x (λ z. f z + most k f (x - z)) ≡ f y + most k f (x - y))
        → ((y : ℕ) → (ys : List ℕ) × (sum ys ≤ x - y) × (most k f (x - y) ≡ sum (map f ys)))
        → (ys : List ℕ) × (sum ys ≤ x) × (greatest x (λ z. f z + most k f (x - z)) ≡ sum (map f ys))
    go (y, l, e) rest =
        let r = rest y in
        let s : sum (y ∷ r.0) ≡ y + sum r.0 = sum_by-cons (λ (z : ℕ). z) y r.0 in
        let m : sum (map f (y ∷ r.0)) ≡ f y + sum (map f r.0) = sum_by-cons (λ (z : ℕ). z) (f y) (map f r.0) in
        let p = r.1 in let q = r.2 in
        (y ∷ r.0, omega (arith, s, p), omega (arith, m, e, q))

-- one number more
most_more : (k : ℕ) (f : ℕ → ℕ) (x y : ℕ) → y ≤ x → f y + most k f (x - y) ≤ most (suc k) f x
unfolding most
most_more k f x y l = at_most_greatest x (λ z. f z + most k f (x - z)) y l

most_rises : (k : ℕ) (f : ℕ → ℕ) (x y : ℕ) → x ≤ y → most k f x ≤ most k f y
unfolding most
most_rises zero f x y l = omega arith
most_rises (suc k) f x y l = go (greatest_is x (λ z. f z + most k f (x - z)))
    (λ z. most_rises k f (x - z) (y - z) (omega arith))
  where
    go : (z : ℕ) × (z ≤ x) × (greatest x (λ w. f w + most k f (x - w)) ≡ f z + most k f (x - z))
        → ((z : ℕ) → most k f (x - z) ≤ most k f (y - z)) → most (suc k) f x ≤ most (suc k) f y
    go (z, m, e) rest =
        let i = rest z in
        let j = most_more k f y z (omega arith) in omega (arith, e, i, j)

-- two together
most_adds : (k m : ℕ) (f : ℕ → ℕ) (x y : ℕ) → most k f x + most m f y ≤ most (k + m) f (x + y)
unfolding most
most_adds zero m f x y =
    let e : 0 + m ≡ m = omega arith in
    let i = most_rises m f y (x + y) (omega arith) in
    rw e (omega (arith, i))
most_adds (suc k) m f x y = go (greatest_is x (λ z. f z + most k f (x - z))) (λ z. most_adds k m f (x - z) y)
  where
    go : (z : ℕ) × (z ≤ x) × (greatest x (λ w. f w + most k f (x - w)) ≡ f z + most k f (x - z))
        → ((z : ℕ) → most k f (x - z) + most m f y ≤ most (k + m) f (x - z + y))
        → most (suc k) f x + most m f y ≤ most (suc k + m) f (x + y)
    go (z, l, e) rest =
        let i = rest z in
        let g : x - z + y ≡ x + y - z = omega (arith, l) in
        let n : suc k + m ≡ suc (k + m) = omega arith in
        let j : f z + most (k + m) f (x + y - z) ≤ most (suc (k + m)) f (x + y) =
        most_more (k + m) f (x + y) z (omega (arith, l)) in
        let i2 : most k f (x - z) + most m f y ≤ most (k + m) f (x + y - z) = rw g at i in
        rw n (omega (arith, e, i2, j))

zeros : ℕ → List ℕ
zeros zero = []
zeros (suc n) = 0 ∷ zeros n

sum_zeros : (n : ℕ) → sum (zeros n) ≡ 0
unfolding zeros
sum_zeros zero = refl
sum_zeros (suc n) = let s = sum_by-cons (λ (z : ℕ). z) 0 (zeros n) in let i = sum_zeros n in omega (arith, s, i)

images_zeros : (n : ℕ) (f : ℕ → ℕ) → 1 ≤ f 0 → n ≤ sum (map f (zeros n))
unfolding zeros
images_zeros zero f h = omega arith
images_zeros (suc n) f h = let s = sum_by-cons (λ (z : ℕ). z) (f 0) (map f (zeros n)) in let i = images_zeros n f h in
    omega (arith, s, i)

feasible_zero : (W F : ℕ) (f : ℕ → ℕ) → IsDualFeasible W F f → f 0 ≡ 0
feasible_zero W F f h = go (cases_lt 0 (f 0))
  where
    go : (0 < f 0) ⊎ (f 0 ≤ 0) → f 0 ≡ 0
    go (inl l) =
        let z = sum_zeros (F + 1) in
        let i = h (zeros (F + 1)) (omega (arith, z)) in
        let j = images_zeros (F + 1) f l in absurd (omega (arith, i, j))
    go (inr l) = omega arith

pub feasible_dominated : (W F : ℕ) (f : ℕ → ℕ) → IsDualFeasible W F f → IsDominated W F f
unfolding most
feasible_dominated W F f h = record {
  above = λ x. most x f x;
  adds = record { adds = λ x y l. most_adds x y f x y; top = top };
  at_most = λ x l. below x;
}
  where
    top : most W f W ≤ F
    top = let w = most_is W f W in let i = h w.0 w.1 in let e = w.2 in omega (arith, i, e)

    below : (x : ℕ) → f x ≤ most x f x
    below zero = let z = feasible_zero W F f h in omega (arith, z)
    below (suc k) = let i = most_more k f (suc k) (suc k) (omega arith) in omega (arith, i)
