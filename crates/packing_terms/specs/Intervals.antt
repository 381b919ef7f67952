-- Weighted intervals of whole numbers.
use Rattle.std.specs.Prelude.{ℕ, ◌+◌, ◌<◌, ◌≤◌, Bool, ◌&&◌, nat_lt, nat_le, if◌then◌else◌}
use Rattle.packing_terms.specs.Sums.{sum_below}

-- the interval of length l from a covers the step from t to t + 1
abbrev pub covers : ℕ → ℕ → ℕ → Bool
covers a l t = nat_le a t && nat_lt t (a + l)

-- n intervals within 0 to W, and the weights of what covers a step are together at most P
pub record AreIntervalsWithin (n W P : ℕ) (start len weight : ℕ → ℕ) : Type 0 where
  pub inside : (v : ℕ) → v < n → start v + len v ≤ W
  pub within : (t : ℕ) → t < W → sum_below n (λ v. if covers (start v) (len v) t then weight v else 0) ≤ P
