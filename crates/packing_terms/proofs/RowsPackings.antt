-- Packings at small numbers: touching without a kerf, the gap with one, and that the kerf doesn't count at the wall.
use Rattle.std.proofs.Common.{ℕ, zero, suc, ◌+◌, ◌<◌, ◌≤◌, inl, inr, refl, arith, List, [], ◌∷◌}
use Rattle.packing_terms.specs.Packing.{PlainInstance, PlainBox, written_container, written_side, place, AreApart}
use Rattle.packing_terms.specs.Packing.{IsPacking}

abbrev box : ℕ → ℕ → PlainBox
box a b = record { sides = a ∷ b ∷ []; value = 1 }

-- ---- without a kerf touching is allowed

-- two planks that fill the container
abbrev two_planks : PlainInstance
two_planks = record { container = 10 ∷ 10 ∷ []; kerfs = 0 ∷ 0 ∷ []; boxes = box 10 5 ∷ box 10 5 ∷ [] }

-- the second plank at this height
abbrev stacked : ℕ → List ℕ
stacked h = 0 ∷ 0 ∷ 0 ∷ h ∷ []

touching_planks : IsPacking two_planks (stacked 5)
touching_planks = record { count = refl; within = within; apart = apart }
  where
    within : (v i : ℕ) → v < 2 → i < 2
        → place two_planks (stacked 5) v i + written_side two_planks v i ≤ written_container two_planks i
    within zero zero h l = omega arith
    within zero (suc zero) h l = omega arith
    within (suc zero) zero h l = omega arith
    within (suc zero) (suc zero) h l = omega arith
    within (suc (suc v)) i h l = absurd (omega (arith, h))
    within v (suc (suc i)) h l = absurd (omega (arith, l))

    apart : (u v : ℕ) → u < v → v < 2 → AreApart two_planks (stacked 5) u v
    apart zero (suc zero) r h = (1, omega arith, inl (omega arith))
    apart u zero r h = absurd (omega (arith, r))
    apart (suc u) (suc zero) r h = absurd (omega (arith, r))
    apart u (suc (suc v)) r h = absurd (omega (arith, h))

-- a plank lower by 1 overlaps the first
overlapping_planks : ¬ IsPacking two_planks (stacked 4)
overlapping_planks packing = refuse (packing.apart 0 1 (omega arith) (omega arith))
  where
    refuse : AreApart two_planks (stacked 4) 0 1 → ⊥
    refuse (zero, l, inl e) = omega (arith, e)
    refuse (zero, l, inr e) = omega (arith, e)
    refuse (suc zero, l, inl e) = omega (arith, e)
    refuse (suc zero, l, inr e) = omega (arith, e)
    refuse (suc (suc i), l, e) = omega (arith, l)

-- a plank higher by 1 stands out of the container
raised_planks : ¬ IsPacking two_planks (stacked 6)
raised_planks packing = let e = packing.within 1 1 (omega arith) (omega arith) in omega (arith, e)

-- ---- the kerf doesn't count at the wall

-- a board of the container's own size
abbrev full : ℕ → ℕ → PlainInstance
full k m = record { container = 10 ∷ 10 ∷ []; kerfs = k ∷ m ∷ []; boxes = box 10 10 ∷ [] }

full_board : (k m : ℕ) → IsPacking (full k m) (0 ∷ 0 ∷ [])
full_board k m = record { count = refl; within = within; apart = λ u v r h. absurd (omega (arith, r, h)) }
  where
    within : (v i : ℕ) → v < 1 → i < 2
        → place (full k m) (0 ∷ 0 ∷ []) v i + written_side (full k m) v i ≤ written_container (full k m) i
    within zero zero h l = omega arith
    within zero (suc zero) h l = omega arith
    within (suc v) i h l = absurd (omega (arith, h))
    within v (suc (suc i)) h l = absurd (omega (arith, l))

-- a block of the container's own size, in four dimensions
abbrev block : ℕ → PlainInstance
block k = record {
  container = 10 ∷ 3 ∷ 3 ∷ 3 ∷ [];
  kerfs = k ∷ k ∷ k ∷ k ∷ [];
  boxes = record { sides = 10 ∷ 3 ∷ 3 ∷ 3 ∷ []; value = 1 } ∷ [];
}

full_block : (k : ℕ) → IsPacking (block k) (0 ∷ 0 ∷ 0 ∷ 0 ∷ [])
full_block k = record { count = refl; within = within; apart = λ u v r h. absurd (omega (arith, r, h)) }
  where
    within : (v i : ℕ) → v < 1 → i < 4
        → place (block k) (0 ∷ 0 ∷ 0 ∷ 0 ∷ []) v i + written_side (block k) v i ≤ written_container (block k) i
    within zero zero h l = omega arith
    within zero (suc zero) h l = omega arith
    within zero (suc (suc zero)) h l = omega arith
    within zero (suc (suc (suc zero))) h l = omega arith
    within (suc v) i h l = absurd (omega (arith, h))
    within v (suc (suc (suc (suc i)))) h l = absurd (omega (arith, l))

-- ---- between two boxes the kerf is kept, and not one unit less

abbrev boards : PlainInstance
boards = record { container = 10 ∷ 10 ∷ []; kerfs = 2 ∷ 3 ∷ []; boxes = box 4 10 ∷ box 4 10 ∷ [] }

-- the second board at this place of the first dimension
abbrev beside : ℕ → List ℕ
beside x = 0 ∷ 0 ∷ x ∷ 0 ∷ []

cut_boards : IsPacking boards (beside 6)
cut_boards = record { count = refl; within = within; apart = apart }
  where
    within : (v i : ℕ) → v < 2 → i < 2
        → place boards (beside 6) v i + written_side boards v i ≤ written_container boards i
    within zero zero h l = omega arith
    within zero (suc zero) h l = omega arith
    within (suc zero) zero h l = omega arith
    within (suc zero) (suc zero) h l = omega arith
    within (suc (suc v)) i h l = absurd (omega (arith, h))
    within v (suc (suc i)) h l = absurd (omega (arith, l))

    apart : (u v : ℕ) → u < v → v < 2 → AreApart boards (beside 6) u v
    apart zero (suc zero) r h = (0, omega arith, inl (omega arith))
    apart u zero r h = absurd (omega (arith, r))
    apart (suc u) (suc zero) r h = absurd (omega (arith, r))
    apart u (suc (suc v)) r h = absurd (omega (arith, h))

close_boards : ¬ IsPacking boards (beside 5)
close_boards packing = refuse (packing.apart 0 1 (omega arith) (omega arith))
  where
    refuse : AreApart boards (beside 5) 0 1 → ⊥
    refuse (zero, l, inl e) = omega (arith, e)
    refuse (zero, l, inr e) = omega (arith, e)
    refuse (suc zero, l, inl e) = omega (arith, e)
    refuse (suc zero, l, inr e) = omega (arith, e)
    refuse (suc (suc i), l, e) = omega (arith, l)

-- two blocks in four dimensions, apart in the last one
abbrev blocks : PlainInstance
blocks = record {
  container = 3 ∷ 3 ∷ 3 ∷ 10 ∷ [];
  kerfs = 1 ∷ 1 ∷ 1 ∷ 2 ∷ [];
  boxes = record { sides = 3 ∷ 3 ∷ 3 ∷ 4 ∷ []; value = 1 } ∷ record { sides = 3 ∷ 3 ∷ 3 ∷ 4 ∷ []; value = 1 } ∷ [];
}

-- the second block at this place of the last dimension
abbrev above : ℕ → List ℕ
above x = 0 ∷ 0 ∷ 0 ∷ 0 ∷ 0 ∷ 0 ∷ 0 ∷ x ∷ []

cut_blocks : IsPacking blocks (above 6)
cut_blocks = record { count = refl; within = within; apart = apart }
  where
    within : (v i : ℕ) → v < 2 → i < 4
        → place blocks (above 6) v i + written_side blocks v i ≤ written_container blocks i
    within zero zero h l = omega arith
    within zero (suc zero) h l = omega arith
    within zero (suc (suc zero)) h l = omega arith
    within zero (suc (suc (suc zero))) h l = omega arith
    within (suc zero) zero h l = omega arith
    within (suc zero) (suc zero) h l = omega arith
    within (suc zero) (suc (suc zero)) h l = omega arith
    within (suc zero) (suc (suc (suc zero))) h l = omega arith
    within (suc (suc v)) i h l = absurd (omega (arith, h))
    within v (suc (suc (suc (suc i)))) h l = absurd (omega (arith, l))

    apart : (u v : ℕ) → u < v → v < 2 → AreApart blocks (above 6) u v
    apart zero (suc zero) r h = (3, omega arith, inl (omega arith))
    apart u zero r h = absurd (omega (arith, r))
    apart (suc u) (suc zero) r h = absurd (omega (arith, r))
    apart u (suc (suc v)) r h = absurd (omega (arith, h))

close_blocks : ¬ IsPacking blocks (above 5)
close_blocks packing = refuse (packing.apart 0 1 (omega arith) (omega arith))
  where
    refuse : AreApart blocks (above 5) 0 1 → ⊥
    refuse (zero, l, inl e) = omega (arith, e)
    refuse (zero, l, inr e) = omega (arith, e)
    refuse (suc zero, l, inl e) = omega (arith, e)
    refuse (suc zero, l, inr e) = omega (arith, e)
    refuse (suc (suc zero), l, inl e) = omega (arith, e)
    refuse (suc (suc zero), l, inr e) = omega (arith, e)
    refuse (suc (suc (suc zero)), l, inl e) = omega (arith, e)
    refuse (suc (suc (suc zero)), l, inr e) = omega (arith, e)
    refuse (suc (suc (suc (suc i))), l, e) = omega (arith, l)
