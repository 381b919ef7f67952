-- A function whose images of two numbers are at most that of their sum, and what that gives.
use Rattle.std.proofs.Common.{◌≡◌, ℕ, ◌+◌, ◌-◌, ◌≤◌, arith, List, [], ◌∷◌, map}
use Rattle.std.specs.List.{sum}
use Rattle.std.proofs.lemmas.List.Sums.{sum_by-cons}
use Rattle.packing_terms.specs.Scales.{IsDualFeasible}

pub record IsSuperadditive (W F : ℕ) (h : ℕ → ℕ) : Type 0 where
  pub adds : (x y : ℕ) → x + y ≤ W → h x + h y ≤ h (x + y)
  pub top : h W ≤ F

-- a superadditive function at or above f
pub record IsDominated (W F : ℕ) (f : ℕ → ℕ) : Type 0 where
  pub above : ℕ → ℕ
  pub adds : IsSuperadditive W F above
  pub at_most : (x : ℕ) → x ≤ W → f x ≤ above x

pub rises : (W F : ℕ) (h : ℕ → ℕ) → IsSuperadditive W F h → (x y : ℕ) → x ≤ y → y ≤ W → h x ≤ h y
rises W F h s x y l m =
    let e : x + (y - x) ≡ y = omega arith in
    let i : h x + h (y - x) ≤ h (x + (y - x)) = s.adds x (y - x) (omega arith) in
    let j : h x + h (y - x) ≤ h y = rw e at i in omega arith

-- the images of a list are at most the image of its sum
list_adds : (W F : ℕ) (f : ℕ → ℕ) (d : IsDominated W F f) (xs : List ℕ) → sum xs ≤ W → sum (map f xs) ≤ d.above (sum xs)
list_adds W F f d [] h = omega arith
list_adds W F f d (x ∷ xs) h =
    let e : sum (x ∷ xs) ≡ x + sum xs = sum_by-cons (λ (y : ℕ). y) x xs in
    let k : sum (map f (x ∷ xs)) ≡ f x + sum (map f xs) = sum_by-cons (λ (y : ℕ). y) (f x) (map f xs) in
    let i : sum (map f xs) ≤ d.above (sum xs) = list_adds W F f d xs (omega arith) in
    let j : d.above x + d.above (sum xs) ≤ d.above (x + sum xs) = d.adds.adds x (sum xs) (omega arith) in
    let l : f x ≤ d.above x = d.at_most x (omega arith) in
    rw (e, k) (omega arith)

pub dominated_feasible : (W F : ℕ) (f : ℕ → ℕ) → IsDominated W F f → IsDualFeasible W F f
dominated_feasible W F f d xs h =
    let i : sum (map f xs) ≤ d.above (sum xs) = list_adds W F f d xs h in
    let j : d.above (sum xs) ≤ d.above W = rises W F d.above d.adds (sum xs) W h (omega arith) in
    let k : d.above W ≤ F = d.adds.top in omega arith
