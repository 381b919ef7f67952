-- Weighted intervals: a superadditive function measures each unit step, and an interval by the steps that it covers.
use Rattle.std.proofs.Common.{◌≡◌, ℕ, zero, suc, ◌+◌, ◌-◌, ◌*◌, ◌<◌, ◌≤◌, ◌⊎◌, inl, inr, refl, sym, ap, ◌∙◌, arith}
use Rattle.std.proofs.Common.{Bool, true, false, cond}
use Rattle.std.proofs.lemmas.Bool.{cases_lt}
use Rattle.std.proofs.lemmas.Bool.Decides.{nat_tests}
use Rattle.std.proofs.Math.Nat.{mul-le-mul_left, mul-le-mul_right}
use Rattle.packing_terms.specs.Sums.{sum_below}
use Rattle.packing_terms.proofs.OpenFew.{sum_less_eq}
use Rattle.packing_terms.specs.Intervals.{covers}
use Rattle.packing_terms.proofs.Sums.{sum-same, sum-times, sum-times_left, sum-turn}
use Rattle.packing_terms.proofs.Superadditive.{IsSuperadditive, IsDominated, rises}

-- the measure of step t
abbrev pub rise : (ℕ → ℕ) → ℕ → ℕ
rise h t = h (t + 1) - h t

wider : (a l t m : ℕ) → cond (covers a l t) m 0 ≤ cond (covers a (suc l) t) m 0
wider a l t m = grind (arith, nat_tests)

last_covered : (a l n m : ℕ) → n ≡ a + l → cond (covers a (suc l) n) m 0 ≡ m
last_covered a l n m e = grind (arith, nat_tests)

-- an interval within the first n steps has a measure of at least the rise over it
pub covered : (n : ℕ) (h : ℕ → ℕ) (a l : ℕ) → a + l ≤ n
    → h (a + l) ≤ h a + sum_below n (λ t. cond (covers a l t) (rise h t) 0)
covered zero h a l e = let z : a + l ≡ a = omega arith in rw z (omega arith)
covered (suc n) h a zero e = let z : a + 0 ≡ a = omega arith in rw z (omega arith)
covered (suc n) h a (suc m) e = go (cases_lt n (a + suc m)) (covered n h a)
  where
    go : (n < a + suc m) ⊎ (a + suc m ≤ n)
        → ((l : ℕ) → a + l ≤ n → h (a + l) ≤ h a + sum_below n (λ t. cond (covers a l t) (rise h t) 0))
        → h (a + suc m) ≤ h a + sum_below (suc n) (λ t. cond (covers a (suc m) t) (rise h t) 0)
    go (inl f) rest =
        let g : n ≡ a + m = omega arith in
        let i = rest m (omega arith) in
        let w = sum_less_eq (λ t. cond (covers a m t) (rise h t) 0) (λ t. cond (covers a (suc m) t) (rise h t) 0) n
        (λ t _. wider a m t (rise h t)) in
        let k = last_covered a m n (rise h n) g in
        let p : h (a + suc m) ≡ h (n + 1) = ap h (omega arith) in
        let q : h (a + m) ≡ h n = ap h (sym g) in
        omega (arith, i, w, k, p, q)
    go (inr f) rest = let i = rest (suc m) f in omega (arith, i)

pub rise_total : (W F : ℕ) (h : ℕ → ℕ) → IsSuperadditive W F h → (n : ℕ) → n ≤ W → sum_below n (rise h) + h 0 ≡ h n
rise_total W F h s zero l = omega arith
rise_total W F h s (suc n) l =
    let i : sum_below n (rise h) + h 0 ≡ h n = rise_total W F h s n (omega arith) in
    let e : suc n ≡ n + 1 = omega arith in
    let j : h n ≤ h (n + 1) = rises W F h s n (n + 1) (omega arith) (omega arith) in
    rw e (omega arith)

-- an image, by the steps that its interval covers
image_covered : (W F : ℕ) (f : ℕ → ℕ) (d : IsDominated W F f) (a l : ℕ) → a + l ≤ W
    → f l ≤ sum_below W (λ t. cond (covers a l t) (rise d.above t) 0)
image_covered W F f d a l e =
    let i = covered W d.above a l e in
    let j : d.above a + d.above l ≤ d.above (a + l) = d.adds.adds a l e in
    let k : f l ≤ d.above l = d.at_most l (omega arith) in
    omega (arith, i)

turned : (b : Bool) (g m : ℕ) → g * cond b m 0 ≡ cond b g 0 * m
turned true g m = refl
turned false g m = omega arith

-- the weights of what covers each step are together at most P
abbrev pub IsWithin : ℕ → ℕ → ℕ → (ℕ → ℕ) → (ℕ → ℕ) → (ℕ → ℕ) → Type 0
IsWithin n W P a l g = (t : ℕ) → t < W → sum_below n (λ v. cond (covers (a v) (l v) t) (g v) 0) ≤ P

-- each image is at most the measure of its interval, the sums change places, and all steps have a measure of at most F
pub weighted : (n W F P : ℕ) (f : ℕ → ℕ) (a l g : ℕ → ℕ) → IsDominated W F f → ((v : ℕ) → v < n → a v + l v ≤ W)
    → IsWithin n W P a l g → sum_below n (λ v. g v * f (l v)) ≤ P * F
weighted n W F P f a l g d inside within =
    let one : sum_below n (λ v. g v * f (l v)) ≤ sum_below n
    (λ v. g v * sum_below W (λ t. cond (covers (a v) (l v) t) (rise d.above t) 0))
    = sum_less_eq _ _ n (λ v e. mul-le-mul_left (g v) (image_covered W F f d (a v) (l v) (inside v e))) in
    let two : sum_below n (λ v. g v * sum_below W (λ t. cond (covers (a v) (l v) t) (rise d.above t) 0))
    ≡ sum_below n (λ v. sum_below W (λ t. cond (covers (a v) (l v) t) (g v) 0 * rise d.above t))
    = sum-same n _ _ (λ v _. sym (sum-times_left W (g v) (λ t. cond (covers (a v) (l v) t) (rise d.above t) 0))
    ∙ sum-same W _ _ (λ t _. turned (covers (a v) (l v) t) (g v) (rise d.above t))) in
    let three : sum_below n (λ v. sum_below W (λ t. cond (covers (a v) (l v) t) (g v) 0 * rise d.above t))
    ≡ sum_below W (λ t. sum_below n (λ v. cond (covers (a v) (l v) t) (g v) 0) * rise d.above t)
    = sum-turn n W (λ v t. cond (covers (a v) (l v) t) (g v) 0 * rise d.above t)
    ∙ sum-same W _ _ (λ t _. sum-times n (rise d.above t) (λ v. cond (covers (a v) (l v) t) (g v) 0)) in
    let four : sum_below W (λ t. sum_below n (λ v. cond (covers (a v) (l v) t) (g v) 0) * rise d.above t) ≤ sum_below W
    (λ t. P * rise d.above t)
    = sum_less_eq _ _ W (λ t e. mul-le-mul_right (rise d.above t) (within t e)) in
    let five : sum_below W (λ t. P * rise d.above t) ≡ P * sum_below W (rise d.above) =
    sum-times_left W P (rise d.above) in
    let whole : sum_below W (rise d.above) + d.above 0 ≡ d.above W = rise_total W F d.above d.adds W (omega arith) in
    let top : d.above W ≤ F = d.adds.top in
    let six : P * sum_below W (rise d.above) ≤ P * F = mul-le-mul_left P (omega arith) in
    omega (arith, one, two, three, four, five, six)
