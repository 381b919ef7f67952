-- Each legal scale function is dominated by a superadditive one.
use Rattle.std.proofs.Common.{◌≡◌, ℕ, ◌+◌, ◌-◌, ◌*◌, ◌/◌, ◌%◌, ◌<◌, ◌≤◌, ◌⊎◌, inl, inr, ap, subst, ◌∙◌, arith, cond}
use Rattle.std.proofs.Common.{leb}
use Rattle.std.proofs.lemmas.Bool.{cases_lt, cases_eq}
use Rattle.std.proofs.lemmas.Bool.Decides.{nat_tests}
use Rattle.std.proofs.lemmas.Nat.{div-add-mod', mod_below}
use Rattle.std.proofs.Math.Nat.{le-div_iff_mul-le, mul-le-mul_right}
use Rattle.packing_terms.specs.declared.ScaleFn.{ScaleFn}
use Rattle.packing_terms.specs.declared.ScaleFn.TheVariants.{Id, Step, Cut, Count}
use Rattle.packing_terms.specs.Scales.{IsLegalScale, scale_image, scale_whole, IsDualFeasible}
use Rattle.packing_terms.proofs.Superadditive.{IsDominated, dominated_feasible}

-- Cut: three cases
abbrev CutCase : ℕ → ℕ → ℕ → ℕ → Type 0
CutCase W e x y = ((x < e) × (y ≡ 0)) ⊎ (((e ≤ x) × (x ≤ W - e) × (y ≡ x)) ⊎ ((W - e < x) × (y ≡ W)))

cut_case : (W e x : ℕ) → CutCase W e x (scale_image (Cut e) W x)
cut_case W e x = grind (arith, nat_tests)

cut_sum : (W e x y a b c : ℕ) → 1 ≤ e → 2 * e ≤ W → x + y ≤ W → CutCase W e x a → CutCase W e y b
    → CutCase W e (x + y) c → a + b ≤ c
cut_sum W e x y a b c p q l i j k = omega arith

cut_dominated : (W e : ℕ) → 1 ≤ e → 2 * e ≤ W → IsDominated W W (scale_image (Cut e) W)
cut_dominated W e p q = record {
  above = scale_image (Cut e) W;
  adds = record {
    adds = λ x y l. cut_sum W e x y _ _ _ p q l (cut_case W e x) (cut_case W e y) (cut_case W e (x + y));
    top = let k = cut_case W e W in omega (arith, k);
  };
  at_most = λ x l. omega arith;
}

-- Count: the function without its middle case is at or above it
abbrev full_count : ℕ → ℕ → ℕ → ℕ
full_count W e x = cond (leb (2 * x) W) (x / e) (W / e - (W - x) / e)

div_sum : (a b e : ℕ) → 1 ≤ e → a / e + b / e ≤ (a + b) / e
div_sum a b e p =
    let i : a / e * e + a % e ≡ a = div-add-mod' a e in
    let j : b / e * e + b % e ≡ b = div-add-mod' b e in
    let k : (a / e + b / e) * e ≡ a / e * e + b / e * e = grind arith in
    let l : (a / e + b / e) * e ≤ a + b = omega arith in
    (le-div_iff_mul-le p).1 l

div_rises : (a b e : ℕ) → 1 ≤ e → a ≤ b → a / e ≤ b / e
div_rises a b e p l =
    let s : a / e + (b - a) / e ≤ (a + (b - a)) / e = div_sum a (b - a) e p in
    let i : a + (b - a) ≡ b = omega arith in
    let t : a / e + (b - a) / e ≤ b / e = rw i at s in omega arith

abbrev CountCase : ℕ → ℕ → ℕ → ℕ → Type 0
CountCase W e x y = ((2 * x ≤ W) × (y ≡ x / e)) ⊎ ((W < 2 * x) × (y ≡ W / e - (W - x) / e))

count_case : (W e x : ℕ) → CountCase W e x (full_count W e x)
count_case W e x = grind (arith, nat_tests)

one_large : (W e x y a b c : ℕ) → 1 ≤ e → x + y ≤ W → (2 * x ≤ W) × (a ≡ x / e)
    → (W < 2 * y) × (b ≡ W / e - (W - y) / e)
    → CountCase W e (x + y) c → a + b ≤ c
one_large W e x y a b c p l i j (inl k) = omega arith
one_large W e x y a b c p l i j (inr k) =
    let t : x / e + (W - (x + y)) / e ≤ (x + (W - (x + y))) / e = div_sum x (W - (x + y)) e p in
    let g : x + (W - (x + y)) ≡ W - y = omega arith in
    let u : x / e + (W - (x + y)) / e ≤ (W - y) / e = rw g at t in
    let r : (W - y) / e ≤ W / e = div_rises (W - y) W e p (omega arith) in
    omega (arith, u, r)

count_sum : (W e x y a b c : ℕ) → 1 ≤ e → x + y ≤ W → CountCase W e x a → CountCase W e y b
    → CountCase W e (x + y) c → a + b ≤ c
count_sum W e x y a b c p l (inl i) (inl j) (inl k) = let s = div_sum x y e p in omega (arith, s)
count_sum W e x y a b c p l (inl i) (inl j) (inr k) =
    let s = div_sum x y e p in
    let t : (x + y) / e + (W - (x + y)) / e ≤ (x + y + (W - (x + y))) / e = div_sum (x + y) (W - (x + y)) e p in
    let g : x + y + (W - (x + y)) ≡ W = omega arith in
    let u : (x + y) / e + (W - (x + y)) / e ≤ W / e = rw g at t in
    omega (arith, s, u)
count_sum W e x y a b c p l (inl i) (inr j) k = one_large W e x y a b c p l i j k
count_sum W e x y a b c p l (inr i) (inl j) k =
    let g : x + y ≡ y + x = omega arith in
    let m : CountCase W e (y + x) c = subst (λ (s : ℕ). CountCase W e s c) g k in
    let n : b + a ≤ c = one_large W e y x b a c p (omega arith) j i m in omega arith
count_sum W e x y a b c p l (inr i) (inr j) k = omega arith

count_below : (W e x : ℕ) → 1 ≤ e → x ≤ W → scale_image (Count e) W x ≤ full_count W e x
count_below W e x p l =
    let k : e ≤ x → 1 ≤ x / e = λ h. (le-div_iff_mul-le p).1 (omega arith) in
    grind (arith, nat_tests, k)

count_dominated : (W e : ℕ) → 1 ≤ e → IsDominated W (W / e) (scale_image (Count e) W)
count_dominated W e p = record {
  above = full_count W e;
  adds = record {
    adds = λ x y l. count_sum W e x y _ _ _ p l (count_case W e x) (count_case W e y) (count_case W e (x + y));
    top = let k = count_case W e W in omega (arith, k);
  };
  at_most = λ x l. count_below W e x p l;
}

-- Step: with a the multiple of W at most (k + 1) * x, and r what is left
record StepCase (W k x y : ℕ) : Type 0 where
  q : ℕ
  r : ℕ
  parts : q * W + r ≡ k * x + x
  small : r < W
  value : ((r ≡ 0) × (y ≡ k * x)) ⊎ ((0 < r) × (y ≡ q * W))

step_case : (W k x : ℕ) → 1 ≤ W → StepCase W k x (scale_image (Step k) W x)
step_case W k x p = record {
  q = (k + 1) * x / W;
  r = (k + 1) * x % W;
  parts = div-add-mod' ((k + 1) * x) W ∙ spread k x;
  small = mod_below ((k + 1) * x) W p;
  value = go (cases_eq ((k + 1) * x % W) 0);
}
  where
    spread : (k x : ℕ) → (k + 1) * x ≡ k * x + x
    spread k x = grind arith

    go : ((k + 1) * x % W ≡ 0) ⊎ ((k + 1) * x % W ≡ 0 → ⊥)
        → (((k + 1) * x % W ≡ 0) × (scale_image (Step k) W x ≡ k * x))
        ⊎ ((0 < (k + 1) * x % W) × (scale_image (Step k) W x ≡ (k + 1) * x / W * W))
    go (inl e) = inl (e, grind (arith, nat_tests, e))
    go (inr e) = inr (omega arith, grind (arith, nat_tests, e))

next_row : (x y W : ℕ) → x < y → x * W + W ≤ y * W
next_row x y W l =
    let h : (x + 1) * W ≤ y * W = mul-le-mul_right W (omega arith) in
    let g : (x + 1) * W ≡ x * W + W = grind arith in omega arith

-- what two remainders carry
carry : (W a b c r s t : ℕ) → c * W + t ≡ (a * W + r) + (b * W + s) → r < W → s < W → t < W
    → (c * W ≡ a * W + b * W) ⊎ (c * W ≡ a * W + b * W + W)
carry W a b c r s t e i j k = go (cases_lt c (a + b)) (cases_lt (a + b) c) (cases_lt (a + b + 1) c)
  where
    sum : (a + b) * W ≡ a * W + b * W
    sum = grind arith

    one : (a + b + 1) * W ≡ a * W + b * W + W
    one = grind arith

    go : (c < a + b) ⊎ (a + b ≤ c) → (a + b < c) ⊎ (c ≤ a + b) → (a + b + 1 < c) ⊎ (c ≤ a + b + 1)
        → (c * W ≡ a * W + b * W) ⊎ (c * W ≡ a * W + b * W + W)
    go (inl f) _ _ = let m = next_row c (a + b) W f in absurd (omega (arith, m, sum))
    go (inr f) (inr g) _ = let m : c ≡ a + b = omega arith in inl (ap (λ z. z * W) m ∙ sum)
    go (inr f) (inl g) (inl h) = let m = next_row (a + b + 1) c W h in absurd (omega (arith, m, one))
    go (inr f) (inl g) (inr h) = let m : c ≡ a + b + 1 = omega arith in inr (ap (λ z. z * W) m ∙ one)

step_sum : (W k x y a b c : ℕ) → x + y ≤ W → StepCase W k x a → StepCase W k y b → StepCase W k (x + y) c → a + b ≤ c
step_sum W k x y a b c l i j m =
    let g : k * (x + y) ≡ k * x + k * y = grind arith in
    let n = carry W i.q j.q m.q i.r j.r m.r (omega arith) i.small j.small m.small in
    omega (arith, n)

step_top : (W k c : ℕ) → StepCase W k W c → c ≤ k * W
step_top W k c m = go (cases_lt k m.q)
  where
    go : (k < m.q) ⊎ (m.q ≤ k) → c ≤ k * W
    go (inl l) = let n = next_row k m.q W l in omega (arith, n)
    go (inr l) = let n : m.q * W ≤ k * W = mul-le-mul_right W l in omega (arith, n)

step_dominated : (W k : ℕ) → 1 ≤ W → IsDominated W (k * W) (scale_image (Step k) W)
step_dominated W k p = record {
  above = scale_image (Step k) W;
  adds = record {
    adds = λ x y l. step_sum W k x y _ _ _ l (step_case W k x p) (step_case W k y p) (step_case W k (x + y) p);
    top = step_top W k _ (step_case W k W p);
  };
  at_most = λ x l. omega arith;
}

pub dominated : (f : ScaleFn) (W : ℕ) → IsLegalScale f W → IsDominated W (scale_whole f W) (scale_image f W)
dominated Id W h = record {
  above = λ x. x;
  adds = record { adds = λ x y l. omega arith; top = omega arith };
  at_most = λ x l. omega arith;
}
dominated (Step k) W h = step_dominated W k h.2
dominated (Cut e) W h = cut_dominated W e h.0 h.1
dominated (Count e) W h = count_dominated W e h.0

pub dual_feasible : (f : ScaleFn) (W : ℕ) → IsLegalScale f W → IsDualFeasible W (scale_whole f W) (scale_image f W)
dual_feasible f W h = dominated_feasible W (scale_whole f W) (scale_image f W) (dominated f W h)
