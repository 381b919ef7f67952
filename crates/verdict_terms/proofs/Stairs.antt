-- A staircase of points, each behind a container that nothing fits, is the front.
--
--     h   +-----+                 nothing fits below the line; each point stands at one of its corners
--         |  #  o-----+
--         |  #  #  #  o---+
--         +---------------+
use Rattle.std.proofs.Common.{◌≡◌, ℕ, suc, ◌-◌, ◌<◌, ◌≤◌, ◌⊎◌, inl, inr, refl, arith, Bool, true, false, List, [], ◌∷◌}
use Rattle.std.proofs.Common.{map}
use Rattle.std.specs.List.{AllByRecursion, Contains}
use Rattle.std.proofs.lemmas.Bool.{cases_lt}
use Rattle.packing_terms.specs.Packing.{PlainInstance, Fits, written_container}
use Rattle.packing_terms.specs.Rising.{AreRising}
use Rattle.verdict_terms.specs.Fronts.{with_container, IsReached, IsLeastSize, last_width, IsClaimed}
use Rattle.verdict_terms.proofs.Sizes.{fits_wider}

-- a list has a pair
abbrev pub IsAmong : ℕ × ℕ → List (ℕ × ℕ) → Type 0
IsAmong p [] = ⊥
IsAmong p (q ∷ qs) = (q ≡ p) ⊎ IsAmong p qs

pub among_contains : (p : ℕ × ℕ) (qs : List (ℕ × ℕ)) → IsAmong p qs → Contains qs p
among_contains p [] h = absurd h
among_contains p (q ∷ qs) (inl e) = (0, omega arith, e)
among_contains p (q ∷ qs) (inr h) = let r = among_contains p qs h in let l = r.1 in (suc r.0, omega (arith, l), r.2)

-- nothing of this height or less is reached: there is no height, or nothing fits the widest container
-- of that height, or, where the front isn't complete, the last one
abbrev pub IsClosed : PlainInstance → Bool → ℕ → ℕ → Type 0
IsClosed instance true a h = (h ≡ 0) ⊎ (¬ Fits (with_container instance (written_container instance 0) h))
IsClosed instance false a h = (h ≡ 0) ⊎ ((a ≡ 0) ⊎ (¬ Fits (with_container instance a h)))

-- up to which width the points are all there
abbrev pub reach : PlainInstance → Bool → ℕ → List (ℕ × ℕ) → ℕ
reach instance true a steps = written_container instance 0
reach instance false a steps = last_width a steps

module _ (instance : PlainInstance) (complete : Bool) where
  -- one point of a staircase, behind one of width a, where heights from h down are left
  pub record IsStep (a h width height : ℕ) : Type 0 where
    pub rising : a < width
    pub widest : width ≤ written_container instance 0
    pub from : 1 ≤ height
    pub to : height ≤ h
    pub corner : (width ≡ 1) ⊎ (¬ Fits (with_container instance (width - 1) h))
    pub fits : Fits (with_container instance width height)

  abbrev pub AreSteps : ℕ → ℕ → List (ℕ × ℕ) → Type 0
  AreSteps a h [] = IsClosed instance complete a h
  AreSteps a h (s ∷ steps) = IsStep a h s.0 s.1 × AreSteps s.0 (s.1 - 1) steps

  -- the point is at most as wide and as high
  abbrev IsBelow : ℕ × ℕ → ℕ → ℕ → Type 0
  IsBelow s x y = (s.0 ≤ x) × (s.1 ≤ y)

  abbrev SomeBelow : List (ℕ × ℕ) → ℕ → ℕ → Type 0
  SomeBelow [] x y = ⊥
  SomeBelow (s ∷ steps) x y = IsBelow s x y ⊎ SomeBelow steps x y

  closed_none : (c : Bool) (a h x y : ℕ) → IsClosed instance c a h → IsReached instance x y → y ≤ h
      → x ≤ reach instance c a [] → ⊥
  closed_none true a h x y (inl e) r l m = let f = r.height_from in omega (arith, e, l, f)
  closed_none true a h x y (inr none) r l m =
      none (fits_wider instance x y (written_container instance 0) h r.width_to l r.fits)
  closed_none false a h x y (inl e) r l m = let f = r.height_from in omega (arith, e, l, f)
  closed_none false a h x y (inr (inl e)) r l m = let f = r.width_from in omega (arith, e, m, f)
  closed_none false a h x y (inr (inr none)) r l m = none (fits_wider instance x y a h m l r.fits)

  reach_more : (c : Bool) (a x : ℕ) (s : ℕ × ℕ) (steps : List (ℕ × ℕ)) → x ≤ reach instance c a (s ∷ steps)
      → x ≤ reach instance c s.0 steps
  reach_more true a x s steps l = l
  reach_more false a x s steps l = l

  -- what is reached is at least as wide and as high as some point
  some_below : (a h : ℕ) (steps : List (ℕ × ℕ)) → AreSteps a h steps → (x y : ℕ) → IsReached instance x y → y ≤ h
      → x ≤ reach instance complete a steps → SomeBelow steps x y
  some_below a h [] closed x y r l m = closed_none complete a h x y closed r l m
  some_below a h (s ∷ steps) (one, more) x y r l m =
      by_width (cases_lt x s.0) (λ k. some_below s.0 (s.1 - 1) steps more x y r k (reach_more complete a x s steps m))
    where
      by_height : s.0 ≤ x → (y < s.1) ⊎ (s.1 ≤ y) → (y ≤ s.1 - 1 → SomeBelow steps x y) → SomeBelow (s ∷ steps) x y
      by_height w (inl k) later = inr (later (omega (arith, k)))
      by_height w (inr k) later = inl (w, k)

      narrow : x < s.0 → (s.0 ≡ 1) ⊎ (¬ Fits (with_container instance (s.0 - 1) h)) → ⊥
      narrow k (inl e) = let f = r.width_from in omega (arith, k, e, f)
      narrow k (inr none) = none (fits_wider instance x y (s.0 - 1) h (omega (arith, k)) l r.fits)

      by_width : (x < s.0) ⊎ (s.0 ≤ x) → (y ≤ s.1 - 1 → SomeBelow steps x y) → SomeBelow (s ∷ steps) x y
      by_width (inl k) later = absurd (narrow k one.corner)
      by_width (inr k) later = by_height k (cases_lt y s.1) later

  -- each point is reached, and from the height on
  step_reached : (a h : ℕ) (s : ℕ × ℕ) → h ≤ written_container instance 1 → IsStep a h s.0 s.1
      → IsReached instance s.0 s.1
  step_reached a h s l one = record {
    width_from = (let r = one.rising in omega (arith, r));
    width_to = one.widest;
    height_from = one.from;
    height_to = (let t = one.to in omega (arith, t, l));
    fits = one.fits;
  }

  -- a point below a least pair is that pair
  same_pair : (s : ℕ × ℕ) (x y : ℕ) → IsReached instance s.0 s.1 → IsLeastSize instance x y → IsBelow s x y → s ≡ (x, y)
  same_pair s x y r least (l, m) = by_width (cases_lt s.0 x) (cases_lt s.1 y)
    where
      by_width : (s.0 < x) ⊎ (x ≤ s.0) → (s.1 < y) ⊎ (y ≤ s.1) → s ≡ (x, y)
      by_width (inl k) other = absurd (least.narrower (record {
        width_from = (let f = r.width_from in omega (arith, f, k));
        width_to = (let t = least.reached.width_to in omega (arith, t));
        height_from = least.reached.height_from;
        height_to = least.reached.height_to;
        fits = fits_wider instance s.0 s.1 (x - 1) y (omega (arith, k)) m r.fits;
      }))
      by_width (inr k) (inl n) = absurd (least.lower (record {
        width_from = least.reached.width_from;
        width_to = least.reached.width_to;
        height_from = (let f = r.height_from in omega (arith, f, n));
        height_to = (let t = least.reached.height_to in omega (arith, t));
        fits = fits_wider instance s.0 s.1 x (y - 1) l (omega (arith, n)) r.fits;
      }))
      by_width (inr k) (inr n) = let e : s.0 ≡ x = omega (arith, k, l) in let f : s.1 ≡ y = omega (arith, n, m) in
          rw (e, f) refl

  among_by : (a h : ℕ) (steps : List (ℕ × ℕ)) → h ≤ written_container instance 1 → AreSteps a h steps → (x y : ℕ)
      → IsLeastSize instance x y → SomeBelow steps x y → IsAmong (x, y) steps
  among_by a h [] l steps x y least b = absurd b
  among_by a h (s ∷ steps) l (one, more) x y least (inl b) = inl (same_pair s x y (step_reached a h s l one) least b)
  among_by a h (s ∷ steps) l (one, more) x y least (inr b) =
      inr (among_by s.0 (s.1 - 1) steps (let t = one.to in omega (arith, t, l)) more x y least b)

  -- below a point nothing is reached at its width
  none_lower : (a h : ℕ) (steps : List (ℕ × ℕ)) → AreSteps a h steps → 1 ≤ a → a ≤ written_container instance 0
      → ¬ IsReached instance a h
  none_lower a h [] closed l m r = closed_none complete a h a h closed r (omega arith) (within complete)
    where
      within : (c : Bool) → a ≤ reach instance c a []
      within true = m
      within false = omega arith
  none_lower a h (s ∷ steps) (one, more) l m r = go one.corner
    where
      go : (s.0 ≡ 1) ⊎ (¬ Fits (with_container instance (s.0 - 1) h)) → ⊥
      go (inl e) = let k = one.rising in omega (arith, e, k, l)
      go (inr none) = none (fits_wider instance a h (s.0 - 1) h (let k = one.rising in omega (arith, k))
          (omega arith) r.fits)

  all_least : (a h : ℕ) (steps : List (ℕ × ℕ)) → h ≤ written_container instance 1 → AreSteps a h steps
      → AllByRecursion (λ s. IsLeastSize instance s.0 s.1) steps
  all_least a h [] l closed = tt
  all_least a h (s ∷ steps) l (one, more) = (
    record {
      reached = step_reached a h s l one;
      narrower = (λ r. narrow r one.corner);
      lower = none_lower s.0 (s.1 - 1) steps more (let k = one.rising in omega (arith, k)) one.widest;
    },
    all_least s.0 (s.1 - 1) steps (let t = one.to in omega (arith, t, l)) more,
  )
    where
      narrow : IsReached instance (s.0 - 1) s.1 → (s.0 ≡ 1) ⊎ (¬ Fits (with_container instance (s.0 - 1) h)) → ⊥
      narrow r (inl e) = let f = r.width_from in omega (arith, e, f)
      narrow r (inr none) = none (fits_wider instance (s.0 - 1) s.1 (s.0 - 1) h (omega arith) one.to r.fits)

  all_above : (a b h : ℕ) (steps : List (ℕ × ℕ)) → a ≤ b → AreSteps b h steps
      → AllByRecursion (λ u. a < u) (map (λ s. s.0) steps)
  all_above a b h [] l closed = tt
  all_above a b h (s ∷ steps) l (one, more) = (
    (let k = one.rising in omega (arith, k, l)),
    all_above a s.0 (s.1 - 1) steps (let k = one.rising in omega (arith, k, l)) more,
  )

  all_rising : (a h : ℕ) (steps : List (ℕ × ℕ)) → AreSteps a h steps → AreRising (map (λ s. s.0) steps)
  all_rising a h [] closed = tt
  all_rising a h (s ∷ steps) (one, more) =
      (all_above s.0 s.0 (s.1 - 1) steps (omega arith) more, all_rising s.0 (s.1 - 1) steps more)

  all_there : (steps : List (ℕ × ℕ)) → AreSteps 0 (written_container instance 1) steps → (x y : ℕ)
      → IsLeastSize instance x y → x ≤ reach instance complete 0 steps → Contains steps (x, y)
  all_there steps are x y least l =
      among_contains (x, y) steps (among_by 0 (written_container instance 1) steps (omega arith) are x y least
      (some_below 0 (written_container instance 1) steps are x y least.reached least.reached.height_to l))

pub steps_claim : (instance : PlainInstance) (complete : Bool) (steps : List (ℕ × ℕ))
    → AreSteps instance complete 0 (written_container instance 1) steps → IsClaimed instance complete steps
steps_claim instance true steps are = record {
  least = all_least instance true 0 (written_container instance 1) steps (omega arith) are;
  complete = (λ x y least. all_there instance true steps are x y least least.reached.width_to);
  rising = all_rising instance true 0 (written_container instance 1) steps are;
}
steps_claim instance false [] are = tt
steps_claim instance false (s ∷ steps) are = record {
  least = all_least instance false 0 (written_container instance 1) (s ∷ steps) (omega arith) are;
  complete = (λ x y least l. all_there instance false (s ∷ steps) are x y least l);
  rising = all_rising instance false 0 (written_container instance 1) (s ∷ steps) are;
}
