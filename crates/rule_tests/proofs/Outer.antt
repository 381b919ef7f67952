-- The first and the third of three boxes, as the tests name them.
use Rattle.std.proofs.Common.{ℕ, zero, suc, ◌+◌, ◌<◌, ◌≤◌, arith, [], ◌∷◌, get_or}
use Rattle.packing_terms.specs.Packing.{PlainInstance, box_count, container_side, side}
use Rattle.packing_terms.specs.Goals.{subset, IsBoxSet}
use Rattle.packing_terms.specs.Scales.{SidesFit}

-- they are named by rising numbers
pub outer_named : (instance : PlainInstance) → 3 ≤ box_count instance → IsBoxSet instance (0 ∷ 2 ∷ [])
outer_named instance h = record { there = (λ k d l. there k d l); rising = (λ k l. rising k l) }
  where
    there : (k d : ℕ) → k < 2 → get_or (0 ∷ 2 ∷ []) k d < box_count instance
    there zero d l = omega arith
    there (suc zero) d l = omega arith
    there (suc (suc k)) d l = absurd (omega arith)

    rising : (k : ℕ) → k + 1 < 2 → get_or (0 ∷ 2 ∷ []) k 0 < get_or (0 ∷ 2 ∷ []) (k + 1) 0
    rising zero l = omega arith
    rising (suc k) l = absurd (omega (arith, l))

-- their sides are within the container's, where all boxes' are
pub outer_fit : (instance : PlainInstance) → 3 ≤ box_count instance → SidesFit instance
    → SidesFit (subset instance (0 ∷ 2 ∷ []))
outer_fit instance h fit k i l m = go k l
  where
    go : (k : ℕ) → k < 2 → side (subset instance (0 ∷ 2 ∷ [])) k i ≤ container_side instance i
    go zero lt = fit 0 i (omega arith) m
    go (suc zero) lt = fit 2 i (omega arith) m
    go (suc (suc k)) lt = absurd (omega arith)
