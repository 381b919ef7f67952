-- The functions of dimension 0 that are tried before functions whose products are known.
use Rattle.std.proofs.Common.{◌≡◌, ℕ, zero, suc, ◌+◌, ◌*◌, ◌<◌, ◌≤◌, refl, sym, ap, ◌∙◌, arith, Bool, true, false, cond}
use Rattle.std.proofs.Common.{List, [], ◌∷◌, length, take, ltb, Some, None, ◌⊎◌, inl, inr}
use Rattle.std.proofs.lemmas.Bool.{cases_eq}
use Rattle.std.proofs.Math.Nat.{mul-le-mul_right}
use Rattle.std.specs.List.{find}
use Rattle.std.proofs.lemmas.List.{length-take-le, get_or-take}
use Rattle.packing_terms.specs.declared.ScaleFn.{ScaleFn}
use Rattle.packing_terms.specs.declared.ScaleFn.TheVariants.{Id}
use Rattle.packing_terms.specs.Packing.{PlainInstance, dims, box_count, container_side, side}
use Rattle.packing_terms.specs.Limits.{IsInternalInstance}
use Rattle.packing_terms.specs.Scales.{IsLegalScale, SidesFit, scale_image, scale_whole, function_at}
use Rattle.packing_terms.specs.Sums.{sum_below}
use Rattle.packing_terms.specs.Tuples.{functions_of, has_excess}
use Rattle.conservative_scales.specs.Within.{within, before_each}
use Rattle.conservative_scales.specs.Partials.{IsPartial}
use Rattle.conservative_scales.specs.Rows.{AreRows, HasRoomForAll}
use Rattle.conservative_scales.proofs.PartialProducts.{partial_more, partial_excess}

module _ (instance : PlainInstance) (c : ℕ) (rest : List ScaleFn) where
  skipped : (t : List ScaleFn) (ts : List (List ScaleFn)) → has_excess instance c t ≡ false
      → find (has_excess instance c) (t ∷ ts) ≡ find (has_excess instance c) ts
  skipped t ts e = ap (λ b. cond b (Some t) (find (has_excess instance c) ts)) e

  -- none of the first functions made a tuple that exceeds
  abbrev pub NoneBefore : List ScaleFn → ℕ → Type 0
  NoneBefore fs n = (k : ℕ) → k < n → has_excess instance c (function_at fs k ∷ rest) ≡ false

  nowhere : (fs : List ScaleFn) → NoneBefore fs (length fs)
      → find (has_excess instance c) (before_each fs rest) ≡ None
  nowhere [] h = refl
  nowhere (f ∷ fs) h = skipped (f ∷ rest) (before_each fs rest) (h 0 (omega arith))
      ∙ nowhere fs (λ k l. h (suc k) (omega (arith, l)))

  somewhere : (fs : List ScaleFn) (j : ℕ) → j < length fs → NoneBefore fs j
      → has_excess instance c (function_at fs j ∷ rest) ≡ true
      → find (has_excess instance c) (before_each fs rest) ≡ Some (function_at fs j ∷ rest)
  somewhere [] j l h e = absurd (omega (arith, l))
  somewhere (f ∷ fs) zero l h e = ap (λ b. cond b (Some (f ∷ rest)) (find (has_excess instance c) (before_each fs rest))) e
  somewhere (f ∷ fs) (suc j) l h e = skipped (f ∷ rest) (before_each fs rest) (h 0 (omega arith))
      ∙ somewhere fs j (omega (arith, l)) (λ k m. h (suc k) (omega (arith, m))) e

  -- the same among the first ones
  pub tried_none : (fs : List ScaleFn) (most : ℕ) → most ≤ length fs → NoneBefore fs most
      → find (has_excess instance c) (before_each (take most fs) rest) ≡ None
  tried_none fs most l h =
      let n = length-take-le most fs l in
      nowhere (take most fs) (λ k m. let s : k < most = omega (arith, m, n) in rw (get_or-take most fs k Id s) (h k s))

  pub tried_found : (fs : List ScaleFn) (most j : ℕ) → most ≤ length fs → j < most → NoneBefore fs j
      → has_excess instance c (function_at fs j ∷ rest) ≡ true
      → find (has_excess instance c) (before_each (take most fs) rest) ≡ Some (function_at fs j ∷ rest)
  tried_found fs most j l m h e =
      let n = length-take-le most fs l in
      rw (← get_or-take most fs j Id m)
      (somewhere (take most fs) j (omega (arith, m, n))
      (λ k s. rw (get_or-take most fs k Id (omega (arith, s, m))) (h k s))
      (rw (get_or-take most fs j Id m) e))

  pub none_more : (fs : List ScaleFn) (n : ℕ) → NoneBefore fs n → has_excess instance c (function_at fs n ∷ rest) ≡ false
      → NoneBefore fs (n + 1)
  none_more fs n h e k l = go (cases_eq k n)
    where
      go : (k ≡ n) ⊎ (k ≡ n → ⊥) → has_excess instance c (function_at fs k ∷ rest) ≡ false
      go (inl s) = rw s e
      go (inr s) = h k (omega (arith, s, l))

-- the products with a function show whether the tuple has an excess
pub tuple_tested : (instance : PlainInstance) (c : ℕ) (rest : List ScaleFn) (f : ScaleFn) (images : ℕ → ℕ)
    (total : ℕ) (b : Bool) → IsInternalInstance instance → SidesFit instance → 0 < dims instance
    → IsLegalScale f (container_side instance 0) → IsPartial instance 1 rest images total
    → b ≡ ltb (c * (total * scale_whole f (container_side instance 0)))
    (sum_below (box_count instance) (λ v. images v * scale_image f (container_side instance 0) (side instance v 0)))
    → has_excess instance c (f ∷ rest) ≡ b
tuple_tested instance c rest f images total b limits fit there legal p e =
    let q : IsPartial instance 0 (f ∷ rest)
    (λ v. images v * scale_image f (container_side instance 0) (side instance v 0))
    (total * scale_whole f (container_side instance 0)) =
    partial_more instance 0 f rest images _ total _ limits fit there legal (λ v l. refl) refl p in
    let n : length (f ∷ rest) ≡ dims instance = (let k = q.count in omega (arith, k)) in
    sym (e ∙ partial_excess instance c (f ∷ rest) _ _ n q)

-- the first function is id
first_alone : (count : ℕ) (fs gs : List ScaleFn) (f : ScaleFn) → f ∷ gs ≡ take count fs → take 1 fs ≡ f ∷ []
first_alone zero fs gs f e = let l = ap length e in absurd (omega (arith, l))
first_alone (suc n) [] gs f e = let l = ap length e in absurd (omega (arith, l))
first_alone (suc n) (x ∷ fs) gs f e = let s : f ≡ x = ap (λ zs. function_at zs 0) e in rw s refl

pub tried_within : (instance : PlainInstance) (count left most : ℕ) (fs rest : List ScaleFn)
    → functions_of instance 0 ≡ take count fs → (left ≡ 0 → most ≡ 1) → (1 ≤ left → most ≡ count)
    → within instance 1 left rest ≡ before_each (take most fs) rest
tried_within instance count zero most fs rest all none some =
    let one : most ≡ 1 = none refl in
    rw (one, first_alone count fs _ Id all) refl
tried_within instance count (suc left) most fs rest all none some =
    let each : most ≡ count = some (omega arith) in
    rw each (ap (λ gs. before_each gs rest) all)

-- id is always there
pub some_tried : (instance : PlainInstance) (count left most : ℕ) (fs : List ScaleFn)
    → functions_of instance 0 ≡ take count fs → count ≤ length fs → (left ≡ 0 → most ≡ 1) → (1 ≤ left → most ≡ count)
    → most ≤ count
some_tried instance count zero most fs all few none some =
    let one : most ≡ 1 = none refl in
    let n = length-take-le count fs few in
    let l = ap length all in omega (arith, one, n, l)
some_tried instance count (suc left) most fs all few none some =
    let each : most ≡ count = some (omega arith) in omega (arith, each)

-- the first rows of more
pub rows_among : (instance : PlainInstance) (most count : ℕ) (fs : List ScaleFn) (xs : List ℕ) → most ≤ count
    → AreRows instance count fs xs → AreRows instance most fs xs
rows_among instance most count fs xs l h = record {
  legal = λ j m. h.legal j (omega (arith, l, m));
  images = λ j v m. h.images j v (omega (arith, l, m));
}

pub row_within : (instance : PlainInstance) (row most places : ℕ) → HasRoomForAll instance most places → row < most
    → row * box_count instance + box_count instance ≤ places
row_within instance row most places room l =
    let whole = room.row in
    let part : row * box_count instance + box_count instance ≤ most * box_count instance =
    go row most (box_count instance) l in
    omega (arith, whole, part)
  where
    go : (a b n : ℕ) → a < b → a * n + n ≤ b * n
    go a b n l =
        let e : a * n + n ≡ (a + 1) * n = grind arith in
        let m : (a + 1) * n ≤ b * n = mul-le-mul_right n (omega (arith, l)) in omega (arith, e, m)
