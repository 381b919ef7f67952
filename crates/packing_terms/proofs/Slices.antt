-- What lies apart in some dimension: the products of images are together at most the product of the wholes.
use Rattle.std.proofs.Common.{◌≡◌, ℕ, zero, suc, ◌+◌, ◌*◌, ◌<◌, ◌≤◌, ◌⊎◌, inl, inr, refl, subst, ◌∙◌, arith, Bool, true}
use Rattle.std.proofs.Common.{false, cond, ◌&&◌}
use Rattle.std.proofs.lemmas.Bool.{cases_lt, cases_Bool, and_parts}
use Rattle.std.proofs.lemmas.Bool.Decides.{nat_tests}
use Rattle.packing_terms.specs.Sums.{sum_below, product_below}
use Rattle.packing_terms.specs.Intervals.{covers}
use Rattle.packing_terms.proofs.Sums.{sum-same, sum-zero}
use Rattle.packing_terms.proofs.Superadditive.{IsDominated}
use Rattle.packing_terms.proofs.Weighted.{IsWithin, weighted}

-- n boxes with a start and a length in each dimension, and a function for each dimension
pub record Layout : Type 0 where
  pub boxes : ℕ
  pub start : ℕ → ℕ → ℕ
  pub len : ℕ → ℕ → ℕ
  pub side : ℕ → ℕ
  pub top : ℕ → ℕ
  pub scale : ℕ → ℕ → ℕ

-- in some dimension below d one ends before the other
abbrev pub LieApart : Layout → ℕ → ℕ → ℕ → Type 0
LieApart y d u v = (i : ℕ) × (i < d)
    × ((y.start u i + y.len u i ≤ y.start v i) ⊎ (y.start v i + y.len v i ≤ y.start u i))

-- each two of the boxes that are kept
abbrev pub AreSpread : Layout → ℕ → (ℕ → Bool) → Type 0
AreSpread y d keep = (u v : ℕ) → u < v → v < y.boxes → keep u ≡ true → keep v ≡ true → LieApart y d u v

abbrev pub images : Layout → ℕ → ℕ → ℕ
images y d v = product_below d (λ i. y.scale i (y.len v i))

pub record IsWellMade (y : Layout) (d : ℕ) : Type 0 where
  pub inside : (v i : ℕ) → v < y.boxes → i < d → y.start v i + y.len v i ≤ y.side i
  pub scaled : (i : ℕ) → i < d → IsDominated (y.side i) (y.top i) (y.scale i)

-- of boxes that lie apart in none of 0 dimensions at most one is kept
at_most_one : (n : ℕ) (keep : ℕ → Bool) → ((u v : ℕ) → u < v → v < n → keep u ≡ true → keep v ≡ true → ⊥)
    → sum_below n (λ v. cond (keep v) 1 0) ≤ 1
at_most_one zero keep h = omega arith
at_most_one (suc n) keep h = go (cases_Bool (keep n)) (at_most_one n keep (λ u v l e. h u v l (omega arith)))
  where
    none : keep n ≡ true → (v : ℕ) → v < n → (b : Bool) → keep v ≡ b → cond {A = ℕ} b 1 0 ≡ 0
    none e v l true f = absurd (h v n l (omega arith) f e)
    none e v l false f = refl

    go : (keep n ≡ true) ⊎ (keep n ≡ false) → sum_below n (λ v. cond (keep v) 1 0) ≤ 1
        → sum_below (suc n) (λ v. cond (keep v) 1 0) ≤ 1
    go (inl e) i =
        let z : sum_below n (λ v. cond (keep v) 1 0) ≡ 0 =
        sum-same n _ (λ v. 0) (λ v l. none e v l (keep v) refl) ∙ sum-zero n in
        rw e (omega arith)
    go (inr e) i = rw e (omega arith)

both : (a b : Bool) (x : ℕ) → cond a (cond b x 0) 0 ≡ cond (a && b) x 0
both true b x = refl
both false b x = refl

kept_times : (b : Bool) (x y : ℕ) → cond b (x * y) 0 ≡ cond b x 0 * y
kept_times true x y = refl
kept_times false x y = omega arith

pub covers_parts : (a l t : ℕ) → covers a l t ≡ true → (a ≤ t) × (t < a + l)
covers_parts a l t h = (grind (arith, nat_tests), grind (arith, nat_tests))

-- boxes over one step of dimension d that lie apart in a dimension up to d, lie apart in one before it
pub slice : (y : Layout) (d t : ℕ) (keep : ℕ → Bool) → AreSpread y (suc d) keep
    → AreSpread y d (λ v. covers (y.start v d) (y.len v d) t && keep v)
slice y d t keep s u v l m hu hv =
    let pu = and_parts _ _ hu in
    let pv = and_parts _ _ hv in
    go (s u v l m pu.1 pv.1) (covers_parts _ _ _ pu.0) (covers_parts _ _ _ pv.0)
  where
    go : LieApart y (suc d) u v → (y.start u d ≤ t) × (t < y.start u d + y.len u d)
        → (y.start v d ≤ t) × (t < y.start v d + y.len v d) → LieApart y d u v
    go w cu cv = at (cases_lt w.0 d)
      where
        at : (w.0 < d) ⊎ (d ≤ w.0) → LieApart y d u v
        at (inl e) = (w.0, e, w.2)
        at (inr e) =
            let g : w.0 ≡ d = (let k = w.1 in omega (arith, k)) in
            let here : (y.start u d + y.len u d ≤ y.start v d) ⊎ (y.start v d + y.len v d ≤ y.start u d)
            = subst (λ (i : ℕ). (y.start u i + y.len u i ≤ y.start v i)
            ⊎ (y.start v i + y.len v i ≤ y.start u i)) g w.2 in
            absurd (omega arith)

pub bounded : (y : Layout) (d : ℕ) → IsWellMade y d → (keep : ℕ → Bool) → AreSpread y d keep
    → sum_below y.boxes (λ v. cond (keep v) (images y d v) 0) ≤ product_below d y.top
bounded y zero m keep s = at_most_one y.boxes keep (λ u v l e hu hv. let w = s u v l e hu hv in omega arith)
bounded y (suc d) m keep s =
    let before : IsWellMade y d = record {
      inside = λ v i l e. m.inside v i l (omega arith);
      scaled = λ i e. m.scaled i (omega arith);
    } in
    let within : IsWithin y.boxes (y.side d) (product_below d y.top) (λ v. y.start v d) (λ v. y.len v d)
    (λ v. cond (keep v) (images y d v) 0)
    = λ t e.
    let same : sum_below y.boxes (λ v. cond (covers (y.start v d) (y.len v d) t) (cond (keep v) (images y d v) 0) 0)
    ≡ sum_below y.boxes (λ v. cond (covers (y.start v d) (y.len v d) t && keep v) (images y d v) 0)
    = sum-same y.boxes _ _ (λ v _. both (covers (y.start v d) (y.len v d) t) (keep v) (images y d v)) in
    rw same (bounded y d before (λ v. covers (y.start v d) (y.len v d) t && keep v) (slice y d t keep s)) in
    let h = weighted y.boxes (y.side d) (y.top d) (product_below d y.top) (y.scale d) (λ v. y.start v d)
    (λ v. y.len v d)
    (λ v. cond (keep v) (images y d v) 0) (m.scaled d (omega arith)) (λ v e. m.inside v d e (omega arith)) within in
    let times : sum_below y.boxes (λ v. cond (keep v) (images y (suc d) v) 0)
    ≡ sum_below y.boxes (λ v. cond (keep v) (images y d v) 0 * y.scale d (y.len v d))
    = sum-same y.boxes _ _ (λ v _. kept_times (keep v) (images y d v) (y.scale d (y.len v d))) in
    rw times h
