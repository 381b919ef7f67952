-- Runs: lists of distinct boxes, each related to the next. Chains are runs, read forwards or
-- backwards. The weight of a run is the sum of its sides.
use Rattle.std.specs.Prelude.{ℕ, ◌+◌, ◌*◌, ◌-◌, ◌<◌, ◌≤◌, ◌≡◌, ◌≢◌, List, [], ◌∷◌, ◌++◌, Bool, false, slice_index}
use Rattle.std.specs.Prelude.{IsTrue}
use Rattle.std.specs.List.{sum_by}
use Rattle.packing_terms.specs.Packing.{PlainInstance, box_count}
use Rattle.packing_terms.specs.Exclusions.{Exclusions, IsSurelyBefore}
use Rattle.packing_terms.specs.Rules.{AreBoxesAmong, AreBoxes, IsChain, weight}
use Rattle.packing_terms.specs.Limits.{max_boxes, max_side}
use Rattle.packing_terms.specs.declared.Direction.{Direction}
use Rattle.packing_terms.specs.declared.Direction.TheVariants.{Forwards, Backwards}

-- each box of the list is related to the next
abbrev pub IsRun : (ℕ → ℕ → Type 0) → List ℕ → Type 0
IsRun R [] = Unit {0}
IsRun R (v ∷ []) = Unit {0}
IsRun R (v ∷ x ∷ l) = R v x × IsRun R (x ∷ l)

-- some run that starts in v has the weight k
pub record HasRun (n : ℕ) (R : ℕ → ℕ → Type 0) (w : ℕ → ℕ) (v k : ℕ) : Type 0 where
  pub rest : List ℕ
  pub boxes : AreBoxesAmong n (v ∷ rest)
  pub run : IsRun R (v ∷ rest)
  pub heavy : sum_by w (v ∷ rest) ≡ k

-- each number is the weight of a run that starts in that box
abbrev pub AreRuns : ℕ → (ℕ → ℕ → Type 0) → (ℕ → ℕ) → List ℕ → Type 0
AreRuns n R w ks = (v : ℕ) → v < n → HasRun n R w v (slice_index ks v)

-- each number is the weight of the heaviest run that starts in that box
pub record IsHeaviestRun (n : ℕ) (R : ℕ → ℕ → Type 0) (w : ℕ → ℕ) (v k : ℕ) : Type 0 where
  pub some : HasRun n R w v k
  pub most : (rest : List ℕ) → AreBoxesAmong n (v ∷ rest) → IsRun R (v ∷ rest) → sum_by w (v ∷ rest) ≤ k

-- what is next in a chain, forwards or backwards
abbrev pub Leads : Exclusions → ℕ → Direction → ℕ → ℕ → Type 0
Leads X i Forwards u v = IsSurelyBefore X i u v
Leads X i Backwards u v = IsSurelyBefore X i v u

-- the relation is transitive among distinct boxes of the first `n`
abbrev pub IsTransitive : ℕ → (ℕ → ℕ → Type 0) → Type 0
IsTransitive n R = (u v x : ℕ) → AreBoxesAmong n (u ∷ v ∷ x ∷ []) → R u v → R v x → R u x

-- no two boxes are related both ways
abbrev pub IsOneWay : ℕ → (ℕ → ℕ → Type 0) → Type 0
IsOneWay n R = (u v : ℕ) → AreBoxesAmong n (u ∷ v ∷ []) → R u v → R v u → ⊥

-- no chain weighs more than the most boxes with the greatest working sides
abbrev pub most_weight : ℕ
most_weight = max_boxes * max_side

-- how far the numbers may still rise
abbrev pub room_to_rise : List ℕ → ℕ
room_to_rise ks = sum_by (λ k. most_weight - k) ks

-- numbers were raised to weights of runs, or left
pub record IsRaise (n : ℕ) (R : ℕ → ℕ → Type 0) (w : ℕ → ℕ) (old new : List ℕ) (changed : Bool) : Type 0 where
  pub runs : AreRuns n R w new
  pub fewer : room_to_rise new ≤ room_to_rise old
  pub shrinks : IsTrue changed → room_to_rise new < room_to_rise old
  pub same : changed ≡ false → new ≡ old

-- no run from v by x on is heavier
pub record HasNoHeavierRun (R : ℕ → ℕ → Type 0) (w : ℕ → ℕ) (ks : List ℕ) (v x : ℕ) : Type 0 where
  pub below : v ≢ x → R v x → w v + slice_index ks x ≤ slice_index ks v

-- some chain that ends in v has the weight k
pub record HasHead (instance : PlainInstance) (X : Exclusions) (i v k : ℕ) : Type 0 where
  pub before : List ℕ
  pub boxes : AreBoxes instance (before ++ v ∷ [])
  pub chain : IsChain X i (before ++ v ∷ [])
  pub heavy : weight instance i (before ++ v ∷ []) ≡ k

-- some chain that starts in v has the weight k
pub record HasTail (instance : PlainInstance) (X : Exclusions) (i v k : ℕ) : Type 0 where
  pub after : List ℕ
  pub boxes : AreBoxes instance (v ∷ after)
  pub chain : IsChain X i (v ∷ after)
  pub heavy : weight instance i (v ∷ after) ≡ k

-- k is the weight of the heaviest chain that ends in v
pub record IsHeaviestHead (instance : PlainInstance) (X : Exclusions) (i v k : ℕ) : Type 0 where
  pub some : HasHead instance X i v k
  pub most : (before : List ℕ) → AreBoxes instance (before ++ v ∷ []) → IsChain X i (before ++ v ∷ [])
      → weight instance i (before ++ v ∷ []) ≤ k

-- k is the weight of the heaviest chain that starts in v
pub record IsHeaviestTail (instance : PlainInstance) (X : Exclusions) (i v k : ℕ) : Type 0 where
  pub some : HasTail instance X i v k
  pub most : (after : List ℕ) → AreBoxes instance (v ∷ after) → IsChain X i (v ∷ after)
      → weight instance i (v ∷ after) ≤ k

-- each number is the weight of some chain that ends in the box, or starts in it
abbrev pub AreHeads : PlainInstance → Exclusions → ℕ → List ℕ → Type 0
AreHeads instance X i ks = (v : ℕ) → v < box_count instance → HasHead instance X i v (slice_index ks v)

abbrev pub AreTails : PlainInstance → Exclusions → ℕ → List ℕ → Type 0
AreTails instance X i ks = (v : ℕ) → v < box_count instance → HasTail instance X i v (slice_index ks v)

-- each number is the weight of the heaviest chain that ends in the box, or starts in it
abbrev pub AreHeaviestHeads : PlainInstance → Exclusions → ℕ → List ℕ → Type 0
AreHeaviestHeads instance X i ks = (v : ℕ) → v < box_count instance → IsHeaviestHead instance X i v (slice_index ks v)

abbrev pub AreHeaviestTails : PlainInstance → Exclusions → ℕ → List ℕ → Type 0
AreHeaviestTails instance X i ks = (v : ℕ) → v < box_count instance → IsHeaviestTail instance X i v (slice_index ks v)
