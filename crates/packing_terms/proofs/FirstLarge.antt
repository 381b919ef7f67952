-- The first box that is longer than the container, and its first such dimension: there is one where
-- some box is, and only one.
use Rattle.std.proofs.Common.{◌≡◌, ℕ, zero, suc, ◌-◌, ◌<◌, ◌≤◌, ◌⊎◌, inl, inr, sym, subst, arith}
use Rattle.std.proofs.lemmas.Bool.{cases_lt}
use Rattle.packing_terms.specs.Packing.{PlainInstance, dims, box_count, container_side, side}
use Rattle.packing_terms.specs.Goals.{HasTooWideBox, HasTooLargeBox}
use Rattle.packing_terms.specs.TooLarge.{IsNotLongerBelow, IsFirstLongerBelow, IsFirstTooLarge, IsFirstTooWide}

module _ (instance : PlainInstance) where
  -- of one box, the first dimension below d
  abbrev IsFirstDim : ℕ → ℕ → ℕ → Type 0
  IsFirstDim d v i = (i < d) × (container_side instance i < side instance v i) × IsNotLongerBelow instance i v

  first_dim : (v d : ℕ) → IsNotLongerBelow instance d v ⊎ ((i : ℕ) × IsFirstDim d v i)
  first_dim v zero = inl (λ i l. absurd (omega (arith, l)))
  first_dim v (suc d) = go (first_dim v d) (cases_lt (container_side instance d) (side instance v d))
    where
      up_to : IsNotLongerBelow instance d v → side instance v d ≤ container_side instance d
          → IsNotLongerBelow instance (suc d) v
      up_to f h i l = pick (cases_lt i d)
        where
          pick : (i < d) ⊎ (d ≤ i) → side instance v i ≤ container_side instance i
          pick (inl m) = f i m
          pick (inr m) = let e : d ≡ i = omega (arith, l, m) in
              subst (λ (j : ℕ). side instance v j ≤ container_side instance j) e h

      go : IsNotLongerBelow instance d v ⊎ ((i : ℕ) × IsFirstDim d v i)
          → (container_side instance d < side instance v d) ⊎ (side instance v d ≤ container_side instance d)
          → IsNotLongerBelow instance (suc d) v ⊎ ((i : ℕ) × IsFirstDim (suc d) v i)
      go (inr (i, f)) c = inr (i, (let l = f.0 in omega (arith, l), f.1, f.2))
      go (inl f) (inl h) = inr (d, (omega arith, h, f))
      go (inl f) (inr h) = inl (up_to f h)

  -- the first box below n
  abbrev AllFit : ℕ → ℕ → Type 0
  AllFit d n = (v : ℕ) → v < n → IsNotLongerBelow instance d v

  first_box : (d n : ℕ) → n ≤ box_count instance → AllFit d n ⊎ ((v i : ℕ) × IsFirstLongerBelow instance d v i)
  first_box d zero l = inl (λ v m. absurd (omega (arith, m)))
  first_box d (suc n) l = go (first_box d n (omega (arith, l))) (first_dim n d)
    where
      up_to : AllFit d n → IsNotLongerBelow instance d n → AllFit d (suc n)
      up_to f h v m = pick (cases_lt v n)
        where
          pick : (v < n) ⊎ (n ≤ v) → IsNotLongerBelow instance d v
          pick (inl k) = f v k
          pick (inr k) = let e : n ≡ v = omega (arith, m, k) in subst (λ (u : ℕ). IsNotLongerBelow instance d u) e h

      go : AllFit d n ⊎ ((v i : ℕ) × IsFirstLongerBelow instance d v i) → IsNotLongerBelow instance d n
          ⊎ ((i : ℕ) × IsFirstDim d n i)
          → AllFit d (suc n) ⊎ ((v i : ℕ) × IsFirstLongerBelow instance d v i)
      go (inr h) c = inr h
      go (inl f) (inl h) = inl (up_to f h)
      go (inl f) (inr (i, g)) = inr (
        n,
        i,
        record { there = omega (arith, l); in_range = g.0; large = g.1; shorter = g.2; earlier = f },
      )

  pub first_or_none : (d : ℕ) → AllFit d (box_count instance) ⊎ ((v i : ℕ) × IsFirstLongerBelow instance d v i)
  first_or_none d = first_box d (box_count instance) (omega arith)

  -- where a box is longer there is a first one
  pub first_there : (d v i : ℕ) → v < box_count instance → i < d → container_side instance i < side instance v i
      → (u j : ℕ) × IsFirstLongerBelow instance d u j
  first_there d v i l m h = go (first_or_none d)
    where
      go : AllFit d (box_count instance) ⊎ ((u j : ℕ) × IsFirstLongerBelow instance d u j)
          → (u j : ℕ) × IsFirstLongerBelow instance d u j
      go (inr k) = k
      go (inl k) = absurd (let s = k v l i m in omega (arith, s, h))

  -- and only one
  no_earlier : (d v i u j : ℕ) → IsFirstLongerBelow instance d v i → IsFirstLongerBelow instance d u j → v ≤ u
  no_earlier d v i u j a b = go (cases_lt u v)
    where
      go : (u < v) ⊎ (v ≤ u) → v ≤ u
      go (inr l) = l
      go (inl l) = absurd (let s = a.earlier u l j b.in_range in let m = b.large in omega (arith, s, m))

  no_shorter : (d v i j : ℕ) → IsFirstLongerBelow instance d v i → IsFirstLongerBelow instance d v j → i ≤ j
  no_shorter d v i j a b = go (cases_lt j i)
    where
      go : (j < i) ⊎ (i ≤ j) → i ≤ j
      go (inr l) = l
      go (inl l) = absurd (let s = a.shorter j l in let m = b.large in omega (arith, s, m))

  pub one_first : (d v i u j : ℕ) → IsFirstLongerBelow instance d v i → IsFirstLongerBelow instance d u j
      → (v ≡ u) × (i ≡ j)
  one_first d v i u j a b =
      let l = no_earlier d v i u j a b in
      let m = no_earlier d u j v i b a in
      let e : u ≡ v = omega (arith, l, m) in
      let c = subst (λ (w : ℕ). IsFirstLongerBelow instance d w j) e b in
      let x = no_shorter d v i j a c in
      let y = no_shorter d v j i c a in
      (sym e, omega (arith, x, y))

  pub first_large_there : HasTooLargeBox instance → (v i : ℕ) × IsFirstTooLarge instance v i
  first_large_there h = first_there (dims instance) h.box_no h.dim h.there h.in_range h.large

  pub first_wide_there : HasTooWideBox instance → (v i : ℕ) × IsFirstTooWide instance v i
  first_wide_there h = let l = h.not_last in
      first_there (dims instance - 1) h.box_no h.dim h.there (omega (arith, l)) h.large

  pub large_box : (v i : ℕ) → IsFirstTooLarge instance v i → HasTooLargeBox instance
  large_box v i h = record { box_no = v; dim = i; there = h.there; in_range = h.in_range; large = h.large }

  pub wide_box : (v i : ℕ) → IsFirstTooWide instance v i → HasTooWideBox instance
  wide_box v i h = let l = h.in_range in
      record { box_no = v; dim = i; there = h.there; not_last = omega (arith, l); large = h.large }
