-- Chains that are listed box by box, one box more.
use Rattle.std.proofs.Common.{◌≡◌, ◌≢◌, ℕ, ◌+◌, ◌<◌, ◌||◌, ◌==◌, ◌⊎◌, inl, inr, Bool, IsTrue, true, false, true≢false}
use Rattle.std.proofs.Common.{List, [], ◌∷◌, refl, sym, ap, ◌∙◌, arith}
use Rattle.std.proofs.lemmas.Bool.{eq-eqb}
use Rattle.std.proofs.lemmas.List.Sums.{sum_by-cons}
use Rattle.std.specs.List.{AllByRecursion}
use Rattle.packing_terms.specs.Packing.{PlainInstance, box_count, side}
use Rattle.packing_terms.specs.declared.Rel.{Rel}
use Rattle.packing_terms.specs.declared.Rel.TheVariants.{Overlap, Before, After}
use Rattle.packing_terms.specs.Exclusions.{Exclusions, IsEdge, IsSurelyBefore}
use Rattle.edge_state.specs.States.{HasEmptyMask}
use Rattle.orientation_rules.specs.Kept.{IsTakenOut, taken}
use Rattle.orientation_rules.specs.ChainLines.{IsKnownChain}

-- what isn't known isn't among what is
other_than : (known : ℕ → Bool) (x : ℕ) (vs : List ℕ) → known x ≡ false → AllByRecursion (λ u. known u ≡ true) vs
    → AllByRecursion (λ u. x ≢ u) vs
other_than known x [] off h = tt
other_than known x (v ∷ vs) off h = ((λ e. true≢false (sym (rw e h.0) ∙ off)), other_than known x vs off h.1)

still_known : (old new : ℕ → Bool) (vs : List ℕ) → ((u : ℕ) → old u ≡ true → new u ≡ true)
    → AllByRecursion (λ u. old u ≡ true) vs → AllByRecursion (λ u. new u ≡ true) vs
still_known old new [] more h = tt
still_known old new (v ∷ vs) more h = (more v h.0, still_known old new vs more h.1)

-- a box by itself
pub line_of_one : (instance : PlainInstance) (X : Exclusions) (i v k : ℕ) (known : ℕ → Bool) → v < box_count instance
    → k ≡ side instance v i → known v ≡ true
    → IsKnownChain instance X i v k known
line_of_one instance X i v k known there e on = record {
  after = [];
  boxes = (there, tt, tt);
  chain = tt;
  heavy = omega (arith, e);
  within = (on, tt);
}

-- one box more in front
pub line_more : (instance : PlainInstance) (X : Exclusions) (i v x k w : ℕ) (old new : ℕ → Bool)
    → IsKnownChain instance X i v k old → x < box_count instance
    → old x ≡ false → IsSurelyBefore X i x v → w ≡ k + side instance x i → ((u : ℕ) → new u ≡ old u || u == x)
    → IsKnownChain instance X i x w new
line_more instance X i v x k w old new h there off before e grown = record {
  after = v ∷ h.after;
  boxes = (there, other_than old x (v ∷ h.after) off h.within, h.boxes);
  chain = (before, h.chain);
  heavy = sum_by-cons (λ (u : ℕ). side instance u i) x (v ∷ h.after)
      ∙ (ap (λ (z : ℕ). side instance x i + z) h.heavy
      ∙ (let turned : side instance x i + k ≡ w = omega (arith, e) in turned));
  within = (own, still_known old new (v ∷ h.after) more h.within);
}
  where
    own : new x ≡ true
    own = grown x ∙ rw off (eq-eqb x x refl)

    more : (u : ℕ) → old u ≡ true → new u ≡ true
    more u on = grown u ∙ rw on refl

-- u is surely before v, and before is taken out too: nothing is left
pub emptied : (instance : PlainInstance) (X Y : Exclusions) (i u v : ℕ) (keep : Rel → Bool) → IsEdge instance i u v
    → IsSurelyBefore X i u v → keep Before ≡ false
    → ((r : Rel) → (IsTrue (X i u v r) ⊎ IsTakenOut i u v keep i u v r) → IsTrue (Y i u v r)) → HasEmptyMask instance Y
emptied instance X Y i u v keep edge ordered off kept = record { dim = i; u = u; v = v; edge = edge; each = each }
  where
    each : (r : Rel) → IsTrue (Y i u v r)
    each Overlap = kept Overlap (inl ordered.0)
    each After = kept After (inl ordered.1)
    each Before = kept Before (inr (taken Before off))
