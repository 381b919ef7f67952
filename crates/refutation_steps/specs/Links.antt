-- Surely before, made transitive.
use Rattle.std.specs.Prelude.{ℕ, ◌≡◌, ◌<◌, List, [], ◌∷◌, Bool, false, IsTrue}
use Rattle.packing_terms.specs.Packing.{PlainInstance, box_count}
use Rattle.packing_terms.specs.Exclusions.{Exclusions, excludes, IsSurelyBefore}
use Rattle.packing_terms.specs.Rules.{AreBoxesAmong}
use Rattle.packing_terms.specs.Runs.{IsTransitive}
use Rattle.edge_state.specs.Edges.{PlainEdges}
use Rattle.verdict_terms.specs.Steps.{PlainStep}
use Rattle.verdict_terms.specs.Kept.{opens}
use Rattle.refutation_steps.specs.Goes.{Goes}

-- surely before leads on at three boxes
abbrev pub IsLinkedAt : ℕ → Exclusions → ℕ → ℕ → ℕ → ℕ → Type 0
IsLinkedAt n X i u v x = AreBoxesAmong n (u ∷ v ∷ x ∷ []) → IsSurelyBefore X i u v → IsSurelyBefore X i v x
    → IsSurelyBefore X i u x

-- a step was taken, and fewer relations are open; or none was taken, since this holds
pub record IsLinkTry (instance : PlainInstance) (old new : PlainEdges) (before after : List PlainStep) (linked : Type 0)
    (changed : Bool) : Type 0 where
  pub goes : Goes instance old new before after
  pub shrinks : IsTrue changed → opens instance new.trail < opens instance old.trail
  pub same : changed ≡ false → (new ≡ old) × (after ≡ before) × linked

-- steps were taken, after which surely before is transitive
pub record IsLinkedThrough (instance : PlainInstance) (dim : ℕ) (old new : PlainEdges)
    (before after : List PlainStep) : Type 0 where
  pub goes : Goes instance old new before after
  pub transitive : IsTransitive (box_count instance) (IsSurelyBefore (excludes new.trail) dim)
