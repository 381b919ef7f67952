-- Disjoint intervals within a window are together at most as long as the window. The first of them
-- cuts the window into two: each other one lies before it or behind it.
use Rattle.std.proofs.Common.{◌≡◌, ℕ, ◌+◌, ◌≤◌, ◌⊎◌, inl, inr, refl, ap, arith, Bool, true, false, cond, ◌&&◌}
use Rattle.std.proofs.Common.{nat_le, List, [], ◌∷◌}
use Rattle.std.specs.List.{sum_by, AllByRecursion}
use Rattle.std.proofs.lemmas.Bool.{cases_Bool, and_parts, and_from, leb-true, le-leb}
use Rattle.std.proofs.lemmas.List.Sums.{sum_by-cons}

module _ (start len : ℕ → ℕ) where
  -- one of the two ends at or before the start of the other
  abbrev pub AreClear : ℕ → ℕ → Type 0
  AreClear u v = (start u + len u ≤ start v) ⊎ (start v + len v ≤ start u)

  abbrev pub AreSpread : List ℕ → Type 0
  AreSpread [] = Unit {0}
  AreSpread (v ∷ vs) = AllByRecursion (λ u. AreClear v u) vs × AreSpread vs

  abbrev is_inside : ℕ → ℕ → ℕ → Bool
  is_inside low high u = nat_le low (start u) && nat_le (start u + len u) high

  -- the length of an interval that lies within the window, and else 0
  abbrev part : ℕ → ℕ → ℕ → ℕ
  part low high u = cond (is_inside low high u) (len u) 0

  abbrev parts : ℕ → ℕ → List ℕ → ℕ
  parts low high vs = sum_by (λ u. part low high u) vs

  record IsPart (low high u : ℕ) : Type 0 where
    from : low ≤ start u
    to : start u + len u ≤ high
    whole : part low high u ≡ len u

  part_in : (low high u : ℕ) → low ≤ start u → start u + len u ≤ high → part low high u ≡ len u
  part_in low high u from to = ap (λ b. cond b (len u) 0)
      (and_from _ _ (le-leb low (start u) from) (le-leb (start u + len u) high to))

  part_cases : (low high u : ℕ) → IsPart low high u ⊎ (part low high u ≡ 0)
  part_cases low high u = go (cases_Bool (is_inside low high u))
    where
      go : (is_inside low high u ≡ true) ⊎ (is_inside low high u ≡ false)
          → IsPart low high u ⊎ (part low high u ≡ 0)
      go (inl e) =
          let both = and_parts (nat_le low (start u)) (nat_le (start u + len u) high) e in
          inl (record {
            from = leb-true low (start u) both.0;
            to = leb-true (start u + len u) high both.1;
            whole = ap (λ b. cond b (len u) 0) e;
          })
      go (inr e) = inr (ap (λ b. cond b (len u) 0) e)

  -- an interval that is clear of another lies before it or behind it
  beside_part : (low high v u : ℕ) → AreClear v u
      → part low high u ≤ part low (start v) u + part (start v + len v) high u
  beside_part low high v u clear = go (part_cases low high u) clear
    where
      go : IsPart low high u ⊎ (part low high u ≡ 0) → AreClear v u
          → part low high u ≤ part low (start v) u + part (start v + len v) high u
      go (inr none) k = omega (arith, none)
      go (inl p) (inl behind) =
          let whole = p.whole in
          let own = part_in (start v + len v) high u behind p.to in
          omega (arith, whole, own)
      go (inl p) (inr before) =
          let whole = p.whole in
          let own = part_in low (start v) u p.from before in
          omega (arith, whole, own)

  beside_parts : (low high v : ℕ) (us : List ℕ) → AllByRecursion (λ u. AreClear v u) us
      → parts low high us ≤ parts low (start v) us + parts (start v + len v) high us
  beside_parts low high v [] clear = omega arith
  beside_parts low high v (u ∷ us) clear =
      let here = beside_part low high v u clear.0 in
      let rest = beside_parts low high v us clear.1 in
      let all = sum_by-cons (λ w. part low high w) u us in
      let left = sum_by-cons (λ w. part low (start v) w) u us in
      let right = sum_by-cons (λ w. part (start v + len v) high w) u us in
      omega (arith, here, rest, all, left, right)

  window : (vs : List ℕ) → AreSpread vs → (low high : ℕ) → low ≤ high → low + parts low high vs ≤ high
  window [] spread low high rises = omega (arith, rises)
  window (v ∷ vs) spread low high rises = go (part_cases low high v) (λ a b l. window vs spread.1 a b l)
    where
      all : parts low high (v ∷ vs) ≡ part low high v + parts low high vs
      all = sum_by-cons (λ w. part low high w) v vs

      go : IsPart low high v ⊎ (part low high v ≡ 0)
          → ((a b : ℕ) → a ≤ b → a + parts a b vs ≤ b) → low + parts low high (v ∷ vs) ≤ high
      go (inr none) within =
          let rest = within low high rises in
          let sum = all in
          omega (arith, none, rest, sum)
      go (inl p) within =
          let from = p.from in
          let to = p.to in
          let whole = p.whole in
          let left = within low (start v) from in
          let right = within (start v + len v) high to in
          let rest = beside_parts low high v vs spread.0 in
          let sum = all in
          omega (arith, from, to, whole, left, right, rest, sum)

  all_parts : (high : ℕ) (vs : List ℕ) → AllByRecursion (λ v. start v + len v ≤ high) vs
      → sum_by len vs ≡ parts 0 high vs
  all_parts high [] inside = refl
  all_parts high (v ∷ vs) inside =
      let here = part_in 0 high v (omega arith) inside.0 in
      let rest = all_parts high vs inside.1 in
      let lengths = sum_by-cons len v vs in
      let sum = sum_by-cons (λ w. part 0 high w) v vs in
      omega (arith, here, rest, lengths, sum)

  -- disjoint intervals from 0 to a side are together at most as long as the side
  pub spread_fits : (high : ℕ) (vs : List ℕ) → AllByRecursion (λ v. start v + len v ≤ high) vs → AreSpread vs
      → sum_by len vs ≤ high
  spread_fits high vs inside spread =
      let sum = all_parts high vs inside in
      let most = window vs spread 0 high (omega arith) in
      omega (arith, sum, most)
