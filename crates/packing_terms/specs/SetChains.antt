-- The heaviest chains of the whole instance among the boxes of a set, which are given by their
-- indices in the set.
use Rattle.std.specs.Prelude.{ℕ, ◌<◌, ◌≤◌, ◌≡◌, List, [], ◌∷◌, ◌++◌, map, length}
use Rattle.std.specs.List.{AllByRecursion}
use Rattle.packing_terms.specs.Packing.{PlainInstance}
use Rattle.packing_terms.specs.Exclusions.{Exclusions}
use Rattle.packing_terms.specs.Rules.{AreBoxes, IsChain, weight}
use Rattle.packing_terms.specs.Renumbering.{named}

-- distinct boxes of the set that are a chain of the whole instance
pub record IsChainAmong (instance : PlainInstance) (keep : List ℕ) (X : Exclusions) (i : ℕ) (vs : List ℕ) : Type 0 where
  pub inside : AllByRecursion (λ k. k < length keep) vs
  pub boxes : AreBoxes instance (map (named keep) vs)
  pub chain : IsChain X i (map (named keep) vs)

-- its weight in the whole instance
abbrev pub weight_among : PlainInstance → List ℕ → ℕ → List ℕ → ℕ
weight_among instance keep i vs = weight instance i (map (named keep) vs)

-- k is the weight of the heaviest chain of boxes of the set that ends in the box at index v
pub record IsHeaviestHeadAmong (instance : PlainInstance) (keep : List ℕ) (X : Exclusions) (i v k : ℕ) : Type 0 where
  pub before : List ℕ
  pub is_chain : IsChainAmong instance keep X i (before ++ v ∷ [])
  pub heavy : weight_among instance keep i (before ++ v ∷ []) ≡ k
  pub most : (others : List ℕ) → IsChainAmong instance keep X i (others ++ v ∷ [])
      → weight_among instance keep i (others ++ v ∷ []) ≤ k

-- the same for chains that start in that box
pub record IsHeaviestTailAmong (instance : PlainInstance) (keep : List ℕ) (X : Exclusions) (i v k : ℕ) : Type 0 where
  pub after : List ℕ
  pub is_chain : IsChainAmong instance keep X i (v ∷ after)
  pub heavy : weight_among instance keep i (v ∷ after) ≡ k
  pub most : (others : List ℕ) → IsChainAmong instance keep X i (v ∷ others)
      → weight_among instance keep i (v ∷ others) ≤ k
