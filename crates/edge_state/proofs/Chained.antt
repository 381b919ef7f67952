-- What CHAIN adds: by one exclusion more that orders no pair, by none at all, and by the weights of heaviest chains.
use Rattle.std.proofs.Common.{◌≡◌, ℕ, ◌+◌, ◌<◌, ◌⊎◌, inl, inr, refl, sym, ap, arith, true, List, [], ◌∷◌, ◌++◌}
use Rattle.std.proofs.Common.{slice_index}
use Rattle.std.proofs.lemmas.Bool.{true≢false}
use Rattle.packing_terms.specs.declared.Rel.{Rel}
use Rattle.packing_terms.specs.declared.Rel.TheVariants.{Overlap, Before, After}
use Rattle.packing_terms.specs.declared.Exclusion.{Exclusion}
use Rattle.packing_terms.specs.Packing.{PlainInstance, box_count, side, container_side}
use Rattle.packing_terms.specs.Exclusions.{excludes, is_same_rel, IsSurelyBefore}
use Rattle.packing_terms.specs.Rules.{Rule, Pair, Apart, Triple, Chain, Compose, Cycle, Order, IsChain, IsRuleInstance}
use Rattle.packing_terms.specs.Rules.{Premises}
use Rattle.packing_terms.specs.Closure.{IsSubset}
use Rattle.packing_terms.proofs.Sets.{excludes_symmetric}
use Rattle.packing_terms.specs.Applied.{Adds, added, mirror_added}
use Rattle.packing_terms.specs.Runs.{AreHeaviestHeads, AreHeaviestTails}
use Rattle.packing_terms.proofs.Drawn.{ends_in}
use Rattle.edge_state.specs.Work.{IsCovered, IsChainIn, IsChainUpToDate, IsUnordered}
use Rattle.edge_state.specs.Passes.{IsChainChecked}
use Rattle.edge_state.proofs.Touched.{IsAt, decide_at, only_old, old_adds}
use Rattle.edge_state.proofs.Needed.{needed_less}

-- what is covered in each instance of CHAIN
chained_each : (instance : PlainInstance) (i : ℕ) (seen es : List Exclusion)
    → ((before after : List ℕ) (u v : ℕ) → IsCovered instance (excludes seen) es (Chain i before u v after))
    → IsChainUpToDate instance i seen es
chained_each instance i seen es h = record { covered = go }
  where
    go : (rule : Rule) → IsChainIn i rule → IsCovered instance (excludes seen) es rule
    go (Chain j before u v after) is = rw is (h before after u v)
    go (Pair j u v) is = absurd is
    go (Apart j u v) is = absurd is
    go (Triple j u v x) is = absurd is
    go (Compose j u v x) is = absurd is
    go (Cycle j a b c d) is = absurd is
    go (Order j a b c d) is = absurd is

-- what was covered stays so when exclusions come on top
pub chained_grown : (instance : PlainInstance) (i : ℕ) (seen old new : List Exclusion)
    → IsSubset (excludes old) (excludes new) → IsChainUpToDate instance i seen old
    → IsChainUpToDate instance i seen new
chained_grown instance i seen old new more h =
    record {
      covered = λ rule is. record {
        holds = λ j u v r add need. more j u v r
            ((h.covered rule is).holds j u v r add (needed_less (excludes old) (excludes new) more rule r need));
      };
    }

module _ (e : Exclusion) (seen old : List Exclusion) (i : ℕ) (within : IsSubset (excludes (e ∷ seen)) (excludes old))
    (free : e.dim ≡ i → IsUnordered (excludes old) e) where
  clash : (u v : ℕ) → IsSurelyBefore (excludes old) i u v → IsAt e i u v → ⊥
  clash u v h (d, inl (p, q)) = (free d).forth (rw (d, p, q) h.0) (rw (d, p, q) h.1)
  clash u v h (d, inr (p, q)) = (free d).back (rw (d, p, q) h.0) (rw (d, p, q) h.1)

  before_seen : (u v : ℕ) → IsSurelyBefore (excludes (e ∷ seen)) i u v → IsSurelyBefore (excludes seen) i u v
  before_seen u v h = go (decide_at e i u v)
    where
      go : IsAt e i u v ⊎ (IsAt e i u v → ⊥) → IsSurelyBefore (excludes seen) i u v
      go (inl at) = absurd (clash u v (within i u v Overlap h.0, within i u v After h.1) at)
      go (inr off) = (only_old e seen i u v Overlap off h.0, only_old e seen i u v After off h.1)

  chain_seen : (vs : List ℕ) → IsChain (excludes (e ∷ seen)) i vs → IsChain (excludes seen) i vs
  chain_seen [] h = tt
  chain_seen (u ∷ []) h = tt
  chain_seen (u ∷ v ∷ vs) h = (before_seen u v h.0, chain_seen (v ∷ vs) h.1)

-- An exclusion that orders no pair of the dimension lets CHAIN add nothing there.
pub chained_next : (instance : PlainInstance) (e : Exclusion) (seen old new : List Exclusion) (i : ℕ)
    → IsSubset (excludes (e ∷ seen)) (excludes old)
    → (e.dim ≡ i → IsUnordered (excludes old) e) → IsChainUpToDate instance i seen new → IsChainUpToDate instance i (e ∷ seen) new
chained_next instance e seen old new i within free h =
    chained_each instance i (e ∷ seen) new (λ before after u v. record {
      holds = λ j a b r add need. (h.covered (Chain i before u v after) refl).holds j a b r
          (old_adds instance (excludes (e ∷ seen)) (excludes seen) (Chain i before u v after)
          (λ p. (
            chain_seen e seen old i within free (before ++ u ∷ []) p.0,
            chain_seen e seen old i within free (v ∷ after) p.1,
            p.2,
          )) (λ s c. c) j a b r add) tt;
    })

-- With nothing excluded chains are single boxes, so CHAIN adds what PAIR adds.
pub chained_first : (instance : PlainInstance) (i : ℕ) (es : List Exclusion)
    → ((j u v : ℕ) → IsRuleInstance instance (Pair j u v) → IsCovered instance (excludes []) es (Pair j u v))
    → IsChainUpToDate instance i [] es
chained_first instance i es pairs =
    chained_each instance i [] es (λ before after u v.
    record { holds = λ j a b r add need. at before after u v j a b r add })
  where
    shut : (before after : List ℕ) (u v : ℕ) → IsRuleInstance instance (Chain i before u v after)
        → Premises instance (excludes []) (Chain i before u v after)
        → excludes es i u v Before ≡ true
    shut (x ∷ []) after u v is p = absurd (true≢false (sym p.0.0.0))
    shut (x ∷ y ∷ before) after u v is p = absurd (true≢false (sym p.0.0.0))
    shut [] (x ∷ after) u v is p = absurd (true≢false (sym p.1.0.0))
    shut [] [] u v is p =
        let wide : container_side instance i < side instance u i + side instance v i = omega (arith, p.2) in
        (pairs i u v (is.0, (is.1.0, (is.3, tt), (is.2.0, tt, tt)))).holds _ _ _ _
        (added Before (is.0, (is.1.0, (is.3, tt), (is.2.0, tt, tt))) wide
        (λ f. true≢false (ap (λ (r : Rel). is_same_rel r Before) f))) tt

    at : (before after : List ℕ) (u v : ℕ) (j a b : ℕ) (r : Rel)
        → Adds instance (excludes []) (Chain i before u v after) j a b r → excludes es j a b r ≡ true
    at before after u v _ _ _ _ (added r is p c) = rw c (shut before after u v is p)
    at before after u v _ _ _ _ (mirror_added r is p c) =
        rw c (excludes_symmetric es i u v Before (shut before after u v is p))

-- With the weights of heaviest chains, CHAIN adds nothing where no two that don't fit are before one another.
pub chained_heaviest : (instance : PlainInstance) (i : ℕ) (old new : List Exclusion) (head tail : List ℕ)
    → AreHeaviestHeads instance (excludes old) i head → AreHeaviestTails instance (excludes old) i tail
    → ((u : ℕ) → u < box_count instance → (v : ℕ) → v < box_count instance → IsChainChecked instance i head tail u v new)
    → IsChainUpToDate instance i old new
chained_heaviest instance i old new head tail heads tails done =
    chained_each instance i old new
    (λ before after u v. record { holds = λ j a b r add need. at before after u v j a b r add })
  where
    shut : (before after : List ℕ) (u v : ℕ) → IsRuleInstance instance (Chain i before u v after)
        → Premises instance (excludes old) (Chain i before u v after)
        → excludes new i u v Before ≡ true
    shut before after u v is p =
        let hu : u < box_count instance = (ends_in instance before u is.1).last in
        let hv : v < box_count instance = is.2.0 in
        let h = (heads u hu).most before is.1 p.0 in
        let t = (tails v hv).most after is.2 p.1 in
        let wide : container_side instance i < slice_index head u + slice_index tail v = omega (arith, p.2) in
        (done u hu v hv).shut is.3 wide

    at : (before after : List ℕ) (u v : ℕ) (j a b : ℕ) (r : Rel)
        → Adds instance (excludes old) (Chain i before u v after) j a b r → excludes new j a b r ≡ true
    at before after u v _ _ _ _ (added r is p c) = rw c (shut before after u v is p)
    at before after u v _ _ _ _ (mirror_added r is p c) =
        rw c (excludes_symmetric new i u v Before (shut before after u v is p))
