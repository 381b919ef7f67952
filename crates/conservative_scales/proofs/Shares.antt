-- The functions of dimension 0, and the most that any of them makes of a box.
use Rattle.std.proofs.Common.{◌≡◌, ℕ, zero, suc, ◌+◌, ◌-◌, ◌*◌, ◌/◌, ◌^◌, ◌<◌, ◌≤◌, ◌⊎◌, inl, inr, refl, sym, ap, subst}
use Rattle.std.proofs.Common.{◌∙◌, arith, Bool, true, false, cond, List, [], ◌∷◌, ◌++◌, map, length}
use Rattle.std.proofs.Common.{replicate, ltb, Some, None}
use Rattle.std.specs.Prelude.{MatchBool, ⊤}
use Rattle.std.specs.List.{sum, flat_map, find, range_with_len}
use Rattle.std.proofs.lemmas.Bool.{le-ltb, ltb-false}
use Rattle.std.proofs.lemmas.List.Sums.{sum_by-cons}
use Rattle.std.proofs.lemmas.List.Folds.{sum_by-replicate}
use Rattle.std.proofs.lemmas.Nat.{mul-le}
use Rattle.std.proofs.Math.Nat.{le_trans, div-mul-le_self, mul-le-mul_left, mul-le-mul_right, le_of_mul-le-mul_left}
use Rattle.packing_terms.specs.declared.ScaleFn.{ScaleFn}
use Rattle.packing_terms.specs.declared.ScaleFn.TheVariants.{Id, Step, Cut, Count}
use Rattle.packing_terms.specs.Packing.{PlainInstance, dims, box_count, container_side, side}
use Rattle.packing_terms.specs.Limits.{IsInternalInstance}
use Rattle.packing_terms.specs.Scales.{IsLegalScale, SidesFit, scale_image, scale_whole}
use Rattle.packing_terms.specs.Sums.{sum_below}
use Rattle.packing_terms.specs.Tuples.{is_threshold, thresholds_above, functions_after, has_excess}
use Rattle.packing_terms.proofs.Members.{IsIn, append_in, map_in, filter_in, range_in}
use Rattle.packing_terms.proofs.Families.{dual_feasible}
use Rattle.conservative_scales.specs.Within.{within}
use Rattle.conservative_scales.specs.Partials.{IsPartial, HoldEach}
use Rattle.conservative_scales.proofs.PartialProducts.{partial_more, partial_excess}
use Rattle.conservative_scales.proofs.Searching.{whole_least}

one_more : (n a : ℕ) → a + n * a ≡ suc n * a
one_more n a = grind arith

sum_plain : (n x : ℕ) → sum (replicate n x) ≡ n * x
sum_plain n x = sum_by-replicate (λ (y : ℕ). y) n x

sum_copies : (n x : ℕ) (f : ℕ → ℕ) → sum (map f (replicate n x)) ≡ n * f x
sum_copies zero x f = omega arith
sum_copies (suc n) x f =
    sum_by-cons (λ (y : ℕ). y) (f x) (map f (replicate n x)) ∙ ap (λ s. f x + s) (sum_copies n x f) ∙ one_more n (f x)

-- as many as stand beside one another have images that fit in the whole
pub beside_most : (f : ScaleFn) (W x : ℕ) → IsLegalScale f W → W / x * scale_image f W x ≤ scale_whole f W
beside_most f W x legal =
    let within : sum (replicate (W / x) x) ≤ W = rw sum_plain (div-mul-le_self W x) in
    rw (← sum_copies (W / x) x (scale_image f W)) (dual_feasible f W legal (replicate (W / x) x) within)

-- so a share is at least what the function makes of the width, in parts of the whole
pub share_most : (f : ScaleFn) (W x s parts : ℕ) → IsLegalScale f W → parts ≤ s * (W / x)
    → parts * scale_image f W x ≤ s * scale_whole f W
share_most f W x s parts legal h =
    le_trans (mul-le-mul_right (scale_image f W x) h)
    (le_trans (same s (W / x) (scale_image f W x)) (mul-le-mul_left s (beside_most f W x legal)))
  where
    same : (a b c : ℕ) → a * b * c ≤ a * (b * c)
    same a b c = let e : a * b * c ≡ a * (b * c) = grind arith in omega arith

-- what is known of the first n boxes: their shares are together at least what any function makes
pub record AreShared (instance : PlainInstance) (images : ℕ → ℕ) (n total : ℕ) : Type 0 where
  pub most : (f : ScaleFn) → IsLegalScale f (container_side instance 0)
      → 720720 * sum_below n (λ v. images v * scale_image f (container_side instance 0) (side instance v 0)) ≤ total
      * scale_whole f (container_side instance 0)
  pub limit : total ≤ n * 2 ^ 99

pub shared_none : (instance : PlainInstance) (images : ℕ → ℕ) → AreShared instance images 0 0
shared_none instance images = record { most = λ f legal. omega arith; limit = omega arith }

pub shared_next : (instance : PlainInstance) (images : ℕ → ℕ) (n total s x : ℕ) → AreShared instance images n total
    → 720720 ≤ s * (container_side instance 0 / side instance n 0) → s ≤ 720720 → x ≡ images n → images n ≤ 2 ^ 79
    → AreShared instance images (n + 1) (total + x * s)
shared_next instance images n total s x h m l e small = record {
  most = λ f legal. next f legal (h.most f legal)
      (share_most f (container_side instance 0) (side instance n 0) s 720720 legal m);
  limit =
      (let p : x * s ≤ 2 ^ 79 * 2 ^ 20 = mul-le x s (2 ^ 79) (2 ^ 20) (rw e small) (omega (arith, l)) in
      let k = h.limit in
      omega (arith, p, k));
}
  where
    spread : (p a i b : ℕ) → p * (a + i * b) ≡ p * a + i * (p * b)
    spread p a i b = grind arith

    joined : (t i s w : ℕ) → t * w + i * (s * w) ≡ (t + i * s) * w
    joined t i s w = grind arith

    next : (f : ScaleFn) → IsLegalScale f (container_side instance 0)
        → 720720 * sum_below n (λ v. images v * scale_image f (container_side instance 0) (side instance v 0)) ≤ total
        * scale_whole f (container_side instance 0)
        → 720720 * scale_image f (container_side instance 0) (side instance n 0) ≤ s * scale_whole f
        (container_side instance 0)
        → 720720 * sum_below (n + 1) (λ v. images v * scale_image f (container_side instance 0) (side instance v 0))
        ≤ (total + x * s) * scale_whole f (container_side instance 0)
    next f legal a b =
        let c = mul-le-mul_left (images n) b in
        let g : n + 1 ≡ suc n = omega arith in
        let l = spread 720720 (sum_below n
        (λ v. images v * scale_image f (container_side instance 0) (side instance v 0))) (images n)
        (scale_image f (container_side instance 0) (side instance n 0)) in
        let r = joined total (images n) s (scale_whole f (container_side instance 0)) in
        rw (g, e) (omega (arith, a, c, l, r))

pub shared_held : (instance : PlainInstance) (images : ℕ → ℕ) (c n total whole : ℕ) → AreShared instance images n total
    → n ≡ box_count instance
    → total ≤ c * whole * 720720 → HoldEach instance c images whole
shared_held instance images c n total whole h e l f legal =
    let a = h.most f legal in
    let b = mul-le-mul_right (scale_whole f (container_side instance 0)) l in
    let d = turned c whole 720720 (scale_whole f (container_side instance 0)) in
    rw (← e) (le_of_mul-le-mul_left {k = 720720} (omega (arith, a, b, d)) (omega arith))
  where
    turned : (c w p z : ℕ) → c * w * p * z ≡ p * (c * (w * z))
    turned c w p z = grind arith

-- the functions of a dimension are legal where its container side isn't 0
module _ (instance : PlainInstance) (i : ℕ) (wide : 1 ≤ container_side instance i) where
  threshold_legal : (e : ℕ) → IsIn e (thresholds_above instance i 0) → (1 ≤ e) × (2 * e ≤ container_side instance i)
  threshold_legal e h =
      let k = filter_in (λ x. is_threshold instance i x) e
      (range_with_len (0 + 1) (container_side instance i / 2 - 0)) h in
      let r = range_in (0 + 1) (container_side instance i / 2 - 0) e k.0 in
      (omega (arith, r), omega (arith, r))

  pub after_legal : (f : ScaleFn) → IsIn f (functions_after instance i Id) → IsLegalScale f (container_side instance i)
  after_legal f h = go (append_in f (map (λ k. Step k) (range_with_len 1 4)) _ h)
    where
      step : (k : ℕ) × IsIn k (range_with_len 1 4) × (f ≡ Step k) → IsLegalScale f (container_side instance i)
      step (k, m, e) =
          let r = range_in 1 4 k m in
          subst (λ g. IsLegalScale g (container_side instance i)) (sym e) (omega (arith, r), omega (arith, r), wide)

      cut : (e : ℕ) × IsIn e (thresholds_above instance i 0) × (f ≡ Cut e) → IsLegalScale f (container_side instance i)
      cut (x, m, e) = subst (λ g. IsLegalScale g (container_side instance i)) (sym e) (threshold_legal x m)

      count : (e : ℕ) × IsIn e (thresholds_above instance i 0) × (f ≡ Count e)
          → IsLegalScale f (container_side instance i)
      count (x, m, e) = subst (λ g. IsLegalScale g (container_side instance i)) (sym e) (threshold_legal x m)

      rest : IsIn f (map (λ e. Cut e) (thresholds_above instance i 0))
          ⊎ IsIn f (map (λ e. Count e) (thresholds_above instance i 0)) → IsLegalScale f (container_side instance i)
      rest (inl m) = cut (map_in (λ e. Cut e) f (thresholds_above instance i 0) m)
      rest (inr m) = count (map_in (λ e. Count e) f (thresholds_above instance i 0) m)

      go : IsIn f (map (λ k. Step k) (range_with_len 1 4))
          ⊎ IsIn f (map (λ e. Cut e) (thresholds_above instance i 0)
          ++ map (λ e. Count e) (thresholds_above instance i 0))
          → IsLegalScale f (container_side instance i)
      go (inl m) = step (map_in (λ k. Step k) f (range_with_len 1 4) m)
      go (inr m) = rest (append_in f (map (λ e. Cut e) (thresholds_above instance i 0))
          (map (λ e. Count e) (thresholds_above instance i 0)) m)

-- a function of dimension 0 before functions whose products are known
module _ (instance : PlainInstance) (c : ℕ) (rest : List ScaleFn) (images : ℕ → ℕ) (total : ℕ)
    (limits : IsInternalInstance instance) (fit : SidesFit instance) (there : 0 < dims instance)
    (p : IsPartial instance 1 rest images total) where
  image_of : ScaleFn → ℕ → ℕ
  image_of f v = images v * scale_image f (container_side instance 0) (side instance v 0)

  held_false : HoldEach instance c images total → (f : ScaleFn) → IsLegalScale f (container_side instance 0)
      → has_excess instance c (f ∷ rest) ≡ false
  held_false h f legal =
      let q : IsPartial instance 0 (f ∷ rest)
      (λ v. images v * scale_image f (container_side instance 0) (side instance v 0))
      (total * scale_whole f (container_side instance 0)) =
      partial_more instance 0 f rest images _ total _ limits fit there legal (λ v l. refl) refl p in
      let n : length (f ∷ rest) ≡ dims instance = (let k = q.count in omega (arith, k)) in
      sym (partial_excess instance c (f ∷ rest) _ _ n q) ∙ le-ltb _ _ (h f legal)

  one_none : (t : List ScaleFn) (ts : List (List ScaleFn)) → has_excess instance c t ≡ false
      → find (has_excess instance c) ts ≡ None
      → find (has_excess instance c) (t ∷ ts) ≡ None
  one_none t ts e h = ap (λ b. cond b (Some t) (find (has_excess instance c) ts)) e ∙ h

  flat_none : (fs : List ScaleFn) → ((f : ScaleFn) → IsIn f fs → has_excess instance c (f ∷ rest) ≡ false)
      → find (has_excess instance c) (flat_map (λ f. (f ∷ rest) ∷ []) fs) ≡ None
  flat_none [] h = refl
  flat_none (f ∷ fs) h = one_none (f ∷ rest) _ (h f (inl refl)) (flat_none fs (λ g m. h g (inr m)))

  pub held_none : HoldEach instance c images total → (left : ℕ)
      → find (has_excess instance c) (within instance 1 left rest) ≡ None
  held_none h zero = one_none (Id ∷ rest) [] (held_false h Id tt) refl
  held_none h (suc m) =
      one_none (Id ∷ rest) (flat_map (λ f. (f ∷ rest) ∷ []) (functions_after instance 0 Id)) (held_false h Id tt)
      (flat_none (functions_after instance 0 Id)
      (λ f i. held_false h f (after_legal instance 0 (whole_least instance 0 limits fit there) f i)))

-- the test of the shares of all boxes
pub shared_test : (instance : PlainInstance) (images : ℕ → ℕ) (c n total whole : ℕ) → AreShared instance images n total
    → n ≡ box_count instance
    → MatchBool (ltb (c * whole * 720720) total) ⊤ (HoldEach instance c images whole)
shared_test instance images c n total whole h e = go (ltb (c * whole * 720720) total) refl
  where
    go : (b : Bool) → ltb (c * whole * 720720) total ≡ b → MatchBool b ⊤ (HoldEach instance c images whole)
    go true t = tt
    go false t = shared_held instance images c n total whole h e (ltb-false _ _ t)

pub sum_next : (f : ℕ → ℕ) (n total x : ℕ) → total ≡ sum_below n f → x ≡ f n → total + x ≡ sum_below (n + 1) f
sum_next f n total x h e = let g : n + 1 ≡ suc n = omega arith in rw g (omega (arith, h, e))
