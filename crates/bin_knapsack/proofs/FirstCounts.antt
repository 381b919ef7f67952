-- The count of the bin tree for no bins.
use Rattle.std.proofs.Common.{◌≡◌, ℕ, zero, suc, ◌+◌, ◌*◌, ◌^◌, ◌≤◌, refl, arith, pow-suc}
use Rattle.packing_terms.specs.Sums.{sum_below}

-- and the count of its tree is 0
zero_power : (n : ℕ) → 0 ^ (n + 1) ≡ 0
zero_power n = let e : n + 1 ≡ suc n = omega arith in rw e (omega (arith, pow-suc 0 n))

zero_powers : (n : ℕ) → sum_below n (λ j. 0 ^ (j + 1)) ≡ 0
zero_powers zero = refl
zero_powers (suc n) = let a = zero_powers n in let b = zero_power n in omega (arith, a, b)

pub no_count : (bound n : ℕ) → bound * sum_below n (λ j. 0 ^ (j + 1)) ≤ 0
no_count bound n = let e = zero_powers n in rw e (omega arith)
