-- Lists and sums of the numbers below a number.
use Rattle.std.specs.Prelude.{ℕ, zero, suc, ◌+◌, ◌*◌, List}
use Rattle.std.specs.List.{range_with_len}

-- 0, 1, .., n - 1
abbrev pub below : ℕ → List ℕ
below n = range_with_len 0 n

-- f 0 + .. + f (n - 1)
abbrev pub sum_below : ℕ → (ℕ → ℕ) → ℕ
sum_below zero f = 0
sum_below (suc n) f = sum_below n f + f n

-- f 0 * .. * f (n - 1)
abbrev pub product_below : ℕ → (ℕ → ℕ) → ℕ
product_below zero f = 1
product_below (suc n) f = product_below n f * f n
