-- Sums over the numbers below a bound.
use Rattle.std.proofs.Common.{◌≡◌, ℕ, zero, suc, ◌+◌, ◌*◌, ◌<◌, refl, sym, ap, ◌∙◌, arith}
use Rattle.packing_terms.specs.Sums.{sum_below}

pub sum-same : (n : ℕ) (f g : ℕ → ℕ) → ((v : ℕ) → v < n → f v ≡ g v) → sum_below n f ≡ sum_below n g
sum-same zero f g h = refl
sum-same (suc n) f g h =
    let i : sum_below n f ≡ sum_below n g = sum-same n f g (λ v l. h v (omega arith)) in
    let k : f n ≡ g n = h n (omega arith) in omega arith

pub sum-zero : (n : ℕ) → sum_below n (λ v. 0) ≡ 0
sum-zero zero = refl
sum-zero (suc n) = let i : sum_below n (λ v. 0) ≡ 0 = sum-zero n in omega arith

pub sum-add : (n : ℕ) (f g : ℕ → ℕ) → sum_below n (λ v. f v + g v) ≡ sum_below n f + sum_below n g
sum-add zero f g = refl
sum-add (suc n) f g =
    let i : sum_below n (λ v. f v + g v) ≡ sum_below n f + sum_below n g = sum-add n f g in omega arith

spread : (a b c : ℕ) → a * c + b * c ≡ (a + b) * c
spread a b c = grind arith

pub sum-times : (n c : ℕ) (f : ℕ → ℕ) → sum_below n (λ v. f v * c) ≡ sum_below n f * c
sum-times zero c f = omega arith
sum-times (suc n) c f =
    let i : sum_below n (λ v. f v * c) ≡ sum_below n f * c = sum-times n c f in
    ap (λ s. s + f n * c) i ∙ spread (sum_below n f) (f n) c

pub sum-turn : (n m : ℕ) (f : ℕ → ℕ → ℕ)
    → sum_below n (λ v. sum_below m (λ t. f v t)) ≡ sum_below m (λ t. sum_below n (λ v. f v t))
sum-turn zero m f = sym (sum-zero m)
sum-turn (suc n) m f =
    ap (λ s. s + sum_below m (λ t. f n t)) (sum-turn n m f)
    ∙ sym (sum-add m (λ t. sum_below n (λ v. f v t)) (λ t. f n t))

propagate_mask : (a b c : ℕ) → c * a + c * b ≡ c * (a + b)
propagate_mask a b c = grind arith

pub sum-times_left : (n c : ℕ) (f : ℕ → ℕ) → sum_below n (λ v. c * f v) ≡ c * sum_below n f
sum-times_left zero c f = omega arith
sum-times_left (suc n) c f =
    ap (λ s. s + c * f n) (sum-times_left n c f) ∙ propagate_mask (sum_below n f) (f n) c
