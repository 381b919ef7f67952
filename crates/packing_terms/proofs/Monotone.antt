-- A rule that applies to a set of exclusions applies to each larger one.
use Rattle.std.proofs.Common.{◌≡◌, ℕ, ◌⊎◌, inl, inr, sym, ◌∙◌, true, false, List, [], ◌∷◌, ◌++◌}
use Rattle.std.proofs.lemmas.Bool.{true≢false, cases_Bool}
use Rattle.packing_terms.specs.declared.Rel.{Rel}
use Rattle.packing_terms.specs.declared.Rel.TheVariants.{Overlap, Before, After}
use Rattle.packing_terms.specs.Packing.{PlainInstance}
use Rattle.packing_terms.specs.Exclusions.{Exclusions, IsJoined, IsSurelyBefore}
use Rattle.packing_terms.specs.Rules.{Rule, Pair, Apart, Triple, Chain, Compose, Cycle, Order, Premises, Concludes}
use Rattle.packing_terms.specs.Rules.{Follows, by_rule, mirrored, IsChain}
use Rattle.packing_terms.specs.Closure.{IsSubset}

-- what is open for the larger set is open for the smaller
pub open_less : (X Y : Exclusions) → IsSubset X Y → (i u v : ℕ) (r : Rel) → Y i u v r ≡ false → X i u v r ≡ false
open_less X Y more i u v r h = go (cases_Bool (X i u v r))
  where
    go : (X i u v r ≡ true) ⊎ (X i u v r ≡ false) → X i u v r ≡ false
    go (inl e) = absurd (true≢false (sym (more i u v r e) ∙ h))
    go (inr e) = e

module _ (instance : PlainInstance) (X Y : Exclusions) (more : IsSubset X Y) where
  joined_more : (i u v : ℕ) → IsJoined X i u v → IsJoined Y i u v
  joined_more i u v h = (more i u v Before h.0, more i u v After h.1)

  before_more : (i u v : ℕ) → IsSurelyBefore X i u v → IsSurelyBefore Y i u v
  before_more i u v h = (more i u v Overlap h.0, more i u v After h.1)

  pub chain_more : (i : ℕ) (vs : List ℕ) → IsChain X i vs → IsChain Y i vs
  chain_more i [] h = tt
  chain_more i (u ∷ []) h = tt
  chain_more i (u ∷ v ∷ vs) h = (before_more i u v h.0, chain_more i (v ∷ vs) h.1)

  pub premises_more : (rule : Rule) → Premises instance X rule → Premises instance Y rule
  premises_more (Pair i u v) h = h
  premises_more (Apart i u v) h = λ j l ne. joined_more j u v (h j l ne)
  premises_more (Triple i u v x) h = (more i u x Overlap h.0, more i v x Overlap h.1, h.2)
  premises_more (Chain i before u v after) h = (chain_more i (before ++ u ∷ []) h.0, chain_more i (v ∷ after) h.1, h.2)
  premises_more (Compose i u v x) h = tt
  premises_more (Cycle i a b c d) h = (
    joined_more i a b h.0,
    joined_more i b c h.1,
    joined_more i c d h.2,
    joined_more i d a h.3,
    more i a c Overlap h.4,
  )
  premises_more (Order i a b c d) h = (before_more i a b h.0, before_more i c d h.1, more i a d Before h.2)

  pub concludes_more : (rule : Rule) (r : Rel) → Concludes X rule r → Concludes Y rule r
  concludes_more (Pair i u v) r h = h
  concludes_more (Apart i u v) r h = h
  concludes_more (Triple i u v x) r h = h
  concludes_more (Chain i before u v after) r h = h
  concludes_more (Compose i u v x) r h = λ q s a b. h q s (open_less X Y more i u v q a) (open_less X Y more i v x s b)
  concludes_more (Cycle i a b c d) r h = h
  concludes_more (Order i a b c d) r h = h

  pub follows_more : (i u v : ℕ) (r : Rel) → Follows instance X i u v r → Follows instance Y i u v r
  follows_more i u v r (by_rule rule _ h p c) = by_rule rule r h (premises_more rule p) (concludes_more rule r c)
  follows_more i u v r (mirrored rule s h p c) = mirrored rule s h (premises_more rule p) (concludes_more rule s c)
