-- Chains that are listed box by box, from their last box on.
use Rattle.std.specs.Prelude.{ℕ, ◌+◌, ◌≡◌, ◌<◌, Bool, true, List, ◌∷◌}
use Rattle.std.specs.List.{AllByRecursion}
use Rattle.packing_terms.specs.Packing.{PlainInstance, side, container_side}
use Rattle.packing_terms.specs.Exclusions.{Exclusions, IsEdge, IsSurelyBefore}
use Rattle.packing_terms.specs.Rules.{AreBoxes, IsChain, weight}
use Rattle.packing_terms.specs.Runs.{HasTail}

-- a chain of known boxes that starts in v has the weight k
pub record IsKnownChain (instance : PlainInstance) (X : Exclusions) (i v k : ℕ) (known : ℕ → Bool) : Type 0 where
  pub after : List ℕ
  pub boxes : AreBoxes instance (v ∷ after)
  pub chain : IsChain X i (v ∷ after)
  pub heavy : weight instance i (v ∷ after) ≡ k
  pub within : AllByRecursion (λ u. known u ≡ true) (v ∷ after)

-- u is surely before v, and with a chain that starts in v it is too long
pub record IsTooLong (instance : PlainInstance) (X : Exclusions) (i u v : ℕ) : Type 0 where
  pub edge : IsEdge instance i u v
  pub ordered : IsSurelyBefore X i u v
  pub heavy : ℕ
  pub tail : HasTail instance X i v heavy
  pub long : container_side instance i < side instance u i + heavy
