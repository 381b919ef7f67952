-- What COMPOSE adds where no instance of it adds anything: surely before is transitive, and ORDER
-- follows where it isn't needed.
use Rattle.std.proofs.Common.{◌≡◌, ◌≢◌, ℕ, ◌<◌, ◌⊎◌, inl, inr, refl, sym, ◌∙◌, true, false, List, ◌∷◌, []}
use Rattle.std.proofs.lemmas.Bool.{true≢false, cases_Bool}
use Rattle.packing_terms.specs.declared.Rel.{Rel}
use Rattle.packing_terms.specs.declared.Rel.TheVariants.{Overlap, Before, After}
use Rattle.packing_terms.specs.declared.Exclusion.{Exclusion}
use Rattle.packing_terms.specs.Packing.{PlainInstance, dims, box_count}
use Rattle.packing_terms.specs.Relations.{allows}
use Rattle.packing_terms.specs.Exclusions.{Exclusions, excludes, IsSurelyBefore}
use Rattle.packing_terms.specs.Rules.{Compose, Order, AreBoxesAmong, IsRuleInstance, Premises}
use Rattle.packing_terms.specs.Applied.{added}
use Rattle.packing_terms.proofs.Sets.{excludes_symmetric}
use Rattle.edge_state.specs.Work.{IsCovered}

three : (n u v x : ℕ) → u < n → v < n → x < n → u ≢ v → u ≢ x → v ≢ x → AreBoxesAmong n (u ∷ v ∷ x ∷ [])
three n u v x hu hv hx uv ux vx = (hu, (uv, (ux, tt)), (hv, (vx, tt), (hx, tt, tt)))

module _ (instance : PlainInstance) (es : List Exclusion) (i : ℕ) (hi : i < dims instance)
    (composes : (u v x : ℕ) → IsCovered instance (excludes es) es (Compose i u v x)) where
  abbrev X : Exclusions
  X = excludes es

  -- the box before one that comes before another comes before that
  pub before_before : (u v x : ℕ) → AreBoxesAmong (box_count instance) (u ∷ v ∷ x ∷ []) → IsSurelyBefore X i u v
      → IsSurelyBefore X i v x → IsSurelyBefore X i u x
  before_before u v x b uv vx = (
    (composes u v x).holds _ _ _ _ (added Overlap (hi, b) tt (λ q s e f. only q s Overlap e f refl)) tt,
    (composes u v x).holds _ _ _ _ (added After (hi, b) tt (λ q s e f. only q s After e f refl)) tt,
  )
    where
      only : (q s r : Rel) → X i u v q ≡ false → X i v x s ≡ false → allows Before Before r ≡ false
          → allows q s r ≡ false
      only Before Before r e f g = g
      only Overlap s r e f g = absurd (true≢false (sym uv.0 ∙ e))
      only After s r e f g = absurd (true≢false (sym uv.1 ∙ e))
      only Before Overlap r e f g = absurd (true≢false (sym vx.0 ∙ f))
      only Before After r e f g = absurd (true≢false (sym vx.1 ∙ f))

  -- a box that comes after one that isn't before another isn't before that
  after_not_before : (u v x : ℕ) → AreBoxesAmong (box_count instance) (u ∷ v ∷ x ∷ []) → IsSurelyBefore X i v u
      → X i v x Before ≡ true → X i u x Before ≡ true
  after_not_before u v x b vu vx =
      (composes u v x).holds _ _ _ _ (added Before (hi, b) tt (λ q s e f. only q s e f)) tt
    where
      only : (q s : Rel) → X i u v q ≡ false → X i v x s ≡ false → allows q s Before ≡ false
      only After Overlap e f = refl
      only After After e f = refl
      only After Before e f = absurd (true≢false (sym vx ∙ f))
      only Overlap s e f = absurd (true≢false (sym (excludes_symmetric es i v u Overlap vu.0) ∙ e))
      only Before s e f = absurd (true≢false (sym (excludes_symmetric es i v u After vu.1) ∙ e))

  -- a box that isn't before one that comes after another isn't before that
  not_before_after : (u v x : ℕ) → AreBoxesAmong (box_count instance) (u ∷ v ∷ x ∷ []) → X i u v Before ≡ true
      → IsSurelyBefore X i x v → X i u x Before ≡ true
  not_before_after u v x b uv xv =
      (composes u v x).holds _ _ _ _ (added Before (hi, b) tt (λ q s e f. only q s e f)) tt
    where
      only : (q s : Rel) → X i u v q ≡ false → X i v x s ≡ false → allows q s Before ≡ false
      only Overlap After e f = refl
      only After After e f = refl
      only Before s e f = absurd (true≢false (sym uv ∙ e))
      only q Overlap e f = absurd (true≢false (sym (excludes_symmetric es i x v Overlap xv.0) ∙ f))
      only q Before e f = absurd (true≢false (sym (excludes_symmetric es i x v After xv.1) ∙ f))

  -- two boxes that neither overlap nor stand in one order stand in the other
  turned : (u v : ℕ) → X i u v Overlap ≡ true → X i u v Before ≡ true → IsSurelyBefore X i v u
  turned u v o b = (excludes_symmetric es i u v Overlap o, excludes_symmetric es i u v Before b)

  -- ORDER adds nothing where it adds nothing that is needed
  pub order_by_compose : (a b c d : ℕ) → IsCovered instance X es (Order i a b c d)
      → IsRuleInstance instance (Order i a b c d) → Premises instance X (Order i a b c d)
      → (r : Rel) → r ≢ Before → X i c b r ≡ true
  order_by_compose a b c d order is p Before ne = absurd (ne refl)
  order_by_compose a b c d order is p After ne =
      excludes_symmetric es i b c Before (not_before_after b d c
      (three _ b d c is.1.2.0 is.1.2.2.2.0 is.1.2.2.0 is.1.2.1.1.0 is.1.2.1.0 (λ e. is.1.2.2.1.0 (sym e)))
      (after_not_before b a d
      (three _ b a d is.1.2.0 is.1.0 is.1.2.2.2.0 (λ e. is.1.1.0 (sym e)) is.1.2.1.1.0 is.1.1.1.1.0) p.0 p.2) p.1)
  order_by_compose a b c d order is p Overlap ne =
      go (cases_Bool (X i a d Overlap)) (cases_Bool (X i b d Overlap)) (cases_Bool (X i a c Overlap))
    where
      -- c is before d, before what d is before
      from_d : IsSurelyBefore X i d b → X i c b Overlap ≡ true
      from_d db = (before_before c d b (three _ c d b is.1.2.2.0 is.1.2.2.2.0 is.1.2.0 is.1.2.2.1.0
          (λ e. is.1.2.1.0 (sym e)) (λ e. is.1.2.1.1.0 (sym e))) p.1 db).0

      -- c is before a, which is before b
      from_a : IsSurelyBefore X i c a → X i c b Overlap ≡ true
      from_a ca = (before_before c a b (three _ c a b is.1.2.2.0 is.1.0 is.1.2.0 (λ e. is.1.1.1.0 (sym e))
          (λ e. is.1.2.1.0 (sym e)) is.1.1.0) ca p.0).0

      go : (X i a d Overlap ≡ true) ⊎ (X i a d Overlap ≡ false)
          → (X i b d Overlap ≡ true) ⊎ (X i b d Overlap ≡ false)
          → (X i a c Overlap ≡ true) ⊎ (X i a c Overlap ≡ false) → X i c b Overlap ≡ true
      go (inl ad) bd ac = from_a (before_before c d a (three _ c d a is.1.2.2.0 is.1.2.2.2.0 is.1.0 is.1.2.2.1.0
          (λ e. is.1.1.1.0 (sym e)) (λ e. is.1.1.1.1.0 (sym e))) p.1 (turned a d ad p.2))
      go (inr ad) (inl bd) ac = from_d (turned b d bd (after_not_before b a d
          (three _ b a d is.1.2.0 is.1.0 is.1.2.2.2.0 (λ e. is.1.1.0 (sym e)) is.1.2.1.1.0 is.1.1.1.1.0) p.0 p.2))
      go (inr ad) (inr bd) (inl ac) = from_a (turned a c ac (not_before_after a d c
          (three _ a d c is.1.0 is.1.2.2.2.0 is.1.2.2.0 is.1.1.1.1.0 is.1.1.1.0 (λ e. is.1.2.2.1.0 (sym e))) p.2 p.1))
      go (inr ad) (inr bd) (inr ac) = order.holds _ _ _ _ (added Overlap is p ne) (refl, ad, bd, ac)
