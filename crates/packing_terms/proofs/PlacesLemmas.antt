-- A settled closed state without an empty mask gives a packing.
use Rattle.std.proofs.Common.{◌≡◌, ◌≢◌, ℕ, zero, suc, ◌+◌, ◌*◌, ◌<◌, ◌≤◌, ◌⊎◌, inl, inr, refl, sym, ap, ◌∙◌, arith}
use Rattle.std.proofs.Common.{true, false, List, [], ◌∷◌, ◌++◌, length}
use Rattle.std.proofs.lemmas.Bool.{true≢false, cases_lt}
use Rattle.std.proofs.lemmas.List.Sums.{sum_by-cons, sum_by_push}
use Rattle.packing_terms.specs.declared.Rel.{Rel}
use Rattle.packing_terms.specs.declared.Rel.TheVariants.{Overlap, Before, After}
use Rattle.packing_terms.specs.Packing.{PlainInstance, IsPacking, HasPositiveSides, dims, box_count, container_side}
use Rattle.packing_terms.specs.Packing.{side, place}
use Rattle.packing_terms.specs.Relations.{allows}
use Rattle.packing_terms.specs.Exclusions.{Exclusions, IsSurelyBefore}
use Rattle.packing_terms.specs.Rules.{Chain, Compose, AreBoxes, by_rule, IsChain, weight}
use Rattle.packing_terms.specs.Closure.{IsStable, IsSymmetric}
use Rattle.packing_terms.specs.Scales.{SidesFit}
use Rattle.packing_terms.proofs.Members.{IsIn, append_in}
use Rattle.packing_terms.specs.Places.{IsOrdered, HasNoEmptyMask, IsGreatestEnd}
use Rattle.packing_terms.proofs.Drawn.{ended}
use Rattle.packing_terms.proofs.Working.{of_working}

module _ (instance : PlainInstance) (X : Exclusions) (stable : IsStable instance X) (symmetric : IsSymmetric X)
    (full : HasNoEmptyMask instance X)
    (sides : HasPositiveSides instance) (fit : SidesFit instance) where
  -- surely before is transitive, by COMPOSE
  pub before_trans : (i u v x : ℕ) → i < dims instance → AreBoxes instance (u ∷ v ∷ x ∷ []) → IsSurelyBefore X i u v
      → IsSurelyBefore X i v x → IsSurelyBefore X i u x
  before_trans i u v x hi b uv vx = (
    stable i u x Overlap (by_rule (Compose i u v x) Overlap (hi, b) tt (λ q s e f. only q s Overlap e f refl)),
    stable i u x After (by_rule (Compose i u v x) After (hi, b) tt (λ q s e f. only q s After e f refl)),
  )
    where
      only : (q s r : Rel) → X i u v q ≡ false → X i v x s ≡ false → allows Before Before r ≡ false
          → allows q s r ≡ false
      only Before Before r e f g = g
      only Overlap s r e f g = absurd (true≢false (sym uv.0 ∙ e))
      only After s r e f g = absurd (true≢false (sym uv.1 ∙ e))
      only Before Overlap r e f g = absurd (true≢false (sym vx.0 ∙ f))
      only Before After r e f g = absurd (true≢false (sym vx.1 ∙ f))

  chain_push : (i : ℕ) (c : List ℕ) (u v : ℕ) → IsChain X i (c ++ u ∷ []) → IsSurelyBefore X i u v
      → IsChain X i ((c ++ u ∷ []) ++ v ∷ [])
  chain_push i [] u v h b = (b, tt)
  chain_push i (x ∷ []) u v h b = (h.0, chain_push i [] u v h.1 b)
  chain_push i (x ∷ y ∷ c) u v h b = (h.0, chain_push i (y ∷ c) u v h.1 b)

  -- a chain from v on, whose boxes before ended there: v is surely before each
  module _ (places : List ℕ) (ends : (v i : ℕ) → v < box_count instance → i < dims instance
      → IsGreatestEnd instance X places i v) where
    -- some chain ends in v, whose weight is where v ends
    pub record EndsAt (i v : ℕ) : Type 0 where
      pub before : List ℕ
      pub boxes : AreBoxes instance (before ++ v ∷ [])
      pub chain : IsChain X i (before ++ v ∷ [])
      pub earlier : (x : ℕ) → IsIn x before → place instance places x i < place instance places v i
      pub heavy : weight instance i (before ++ v ∷ []) ≡ place instance places v i + side instance v i

    -- by how far v starts
    ends_at : (k i v : ℕ) → place instance places v i < k → i < dims instance → v < box_count instance → EndsAt i v
    ends_at zero i v small hi hv = absurd (omega arith)
    ends_at (suc k) i v small hi hv = go (ends v i hv hi).reached (λ u l hu. ends_at k i u l hi hu)
      where
        go : (place instance places v i ≡ 0)
            ⊎ ((u : ℕ) × (u < box_count instance) × IsSurelyBefore X i u v
            × (place instance places v i ≡ place instance places u i + side instance u i))
            → ((u : ℕ) → place instance places u i < k → u < box_count instance → EndsAt i u) → EndsAt i v
        go (inl e) rest = record {
          before = [];
          boxes = (hv, tt, tt);
          chain = tt;
          earlier = λ x j. absurd j;
          heavy = omega (arith, e, sum_by-cons (λ (y : ℕ). side instance y i) v []);
        }
        go (inr (u, hu, uv, e)) rest =
            longer u hu uv e (rest u (omega (arith, e, sides u i hu hi)) hu)
          where
            longer : (u : ℕ) → u < box_count instance → IsSurelyBefore X i u v
                → place instance places v i ≡ place instance places u i + side instance u i → EndsAt i u → EndsAt i v
            longer u hu uv e h = record {
              before = h.before ++ u ∷ [];
              boxes = ended instance (h.before ++ u ∷ []) v h.boxes hv
                  (λ x j f. sooner x j (ap (λ y. place instance places y i) f));
              chain = chain_push i h.before u v h.chain uv;
              earlier = λ x j. sooner' x j;
              heavy = omega (arith, e, h.heavy, sum_by_push (λ (y : ℕ). side instance y i) (h.before ++ u ∷ []) v);
            }
              where
                sooner' : (x : ℕ) → IsIn x (h.before ++ u ∷ []) → place instance places x i < place instance places v i
                sooner' x j = pick (append_in x h.before (u ∷ []) j)
                  where
                    pick : IsIn x h.before ⊎ ((x ≡ u) ⊎ ⊥) → place instance places x i < place instance places v i
                    pick (inl k) = omega (arith, h.earlier x k, e, sides u i hu hi)
                    pick (inr (inl f)) = omega (arith, ap (λ y. place instance places y i) f, e, sides u i hu hi)
                    pick (inr (inr k)) = absurd k

                sooner : (x : ℕ) → IsIn x (h.before ++ u ∷ [])
                    → place instance places x i ≡ place instance places v i → ⊥
                sooner x j f = omega (arith, sooner' x j, f)

    -- each box lies within the container, by CHAIN
    inside : (v i : ℕ) → v < box_count instance → i < dims instance
        → place instance places v i + side instance v i ≤ container_side instance i
    inside v i hv hi = go (ends v i hv hi).reached
        (λ u hu. ends_at (suc (place instance places u i)) i u (omega arith) hi hu)
      where
        too_long : (u : ℕ) → u < box_count instance → IsSurelyBefore X i u v → EndsAt i u
            → container_side instance i < place instance places u i + side instance u i + side instance v i → ⊥
        too_long u hu uv h long = clash (full i u v (record { dim = hi; first = hu; second = hv; distinct = apart }))
          where
            later : place instance places u i + side instance u i ≤ place instance places v i
            later = (ends v i hv hi).above u hu uv

            apart : u ≢ v
            apart f = omega (arith, later, ap (λ y. place instance places y i) f, sides u i hu hi)

            shut : X i u v Before ≡ true
            shut = stable i u v Before (by_rule (Chain i h.before u v []) Before (hi, h.boxes, (hv, tt, tt), apart)
                (h.chain, tt, omega (arith, long, h.heavy, sum_by-cons (λ (y : ℕ). side instance y i) v [])) refl)

            clash : (r : Rel) × (X i u v r ≡ false) → ⊥
            clash (Overlap, e) = true≢false (sym uv.0 ∙ e)
            clash (After, e) = true≢false (sym uv.1 ∙ e)
            clash (Before, e) = true≢false (sym shut ∙ e)

        go : (place instance places v i ≡ 0)
            ⊎ ((u : ℕ) × (u < box_count instance) × IsSurelyBefore X i u v
            × (place instance places v i ≡ place instance places u i + side instance u i))
            → ((u : ℕ) → u < box_count instance → EndsAt i u)
            → place instance places v i + side instance v i ≤ container_side instance i
        go (inl e) rest = omega (arith, e, fit v i hv hi)
        go (inr (u, hu, uv, e)) rest =
            split (cases_lt (container_side instance i)
            (place instance places u i + side instance u i + side instance v i))
          where
            split : (container_side instance i < place instance places u i + side instance u i + side instance v i)
                ⊎ (place instance places u i + side instance u i + side instance v i ≤ container_side instance i)
                → place instance places v i + side instance v i ≤ container_side instance i
            split (inl l) = absurd (too_long u hu uv (rest u hu) l)
            split (inr l) = omega (arith, e)

    -- the places are a packing
    pub places_pack : length places ≡ box_count instance * dims instance
        → ((u v : ℕ) → u < v → v < box_count instance → IsOrdered instance X u v) → IsPacking instance places
    places_pack count settled = of_working instance places
        (record { count = count; inside = inside; disjoint = λ u v l hv. go u v l hv (settled u v l hv) })
      where
        go : (u v : ℕ) → u < v → v < box_count instance → IsOrdered instance X u v
            → (i : ℕ) × (i < dims instance)
            × ((place instance places u i + side instance u i ≤ place instance places v i)
            ⊎ (place instance places v i + side instance v i ≤ place instance places u i))
        go u v l hv (i, hi, inl b) = (i, hi, inl ((ends v i hv hi).above u (omega arith) b))
        go u v l hv (i, hi, inr b) = (i, hi, inr ((ends u i (omega arith) hi).above v hv b))
