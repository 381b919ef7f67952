-- A stable table holds the closure, and a derivation is sound.
use Rattle.std.proofs.Common.{◌≡◌, ℕ, ◌⊎◌, inl, inr, sym, subst, true, List, [], ◌∷◌, IsTrue}
use Rattle.std.proofs.lemmas.Bool.{true≢false, or_cases}
use Rattle.packing_terms.specs.declared.Rel.{Rel}
use Rattle.packing_terms.specs.declared.Rel.TheVariants.{Overlap, Before, After}
use Rattle.packing_terms.specs.declared.Exclusion.{Exclusion}
use Rattle.packing_terms.specs.Packing.{PlainInstance, IsPacking, HasPositiveSides}
use Rattle.packing_terms.specs.Relations.{mirror, Holds}
use Rattle.packing_terms.specs.Exclusions.{Exclusions, Respects, is_of, excludes}
use Rattle.packing_terms.specs.Rules.{Follows}
use Rattle.packing_terms.specs.Closure.{IsDerivation, IsDerived, HasConflict, IsSubset, IsSymmetric, IsStable}
use Rattle.packing_terms.proofs.Monotone.{follows_more}
use Rattle.packing_terms.proofs.Soundness.{follows_sound}
use Rattle.packing_terms.proofs.Sets.{of_own, mirror_twice}
use Rattle.packing_terms.proofs.Intervals.{some_relation}

-- A table that holds E, and to which no rule adds an exclusion, holds each derivation.
pub stable_holds : (instance : PlainInstance) (E X : Exclusions) → IsSymmetric X → IsSubset E X → IsStable instance X
    → (es : List Exclusion) → IsDerivation instance E es → IsSubset (excludes es) X
stable_holds instance E X symmetric holds stable [] d i u v r h = absurd (true≢false (sym h))
stable_holds instance E X symmetric holds stable (e ∷ es) d i u v r h =
    go (stable_holds instance E X symmetric holds stable es d.1) (or_cases _ _ h)
  where
    own : IsSubset (excludes es) X → IsTrue (E e.dim e.u e.v e.rel) ⊎ Follows instance (excludes es) e.dim e.u e.v e.rel
        → IsTrue (X e.dim e.u e.v e.rel)
    own rest (inl k) = holds e.dim e.u e.v e.rel k
    own rest (inr k) = stable e.dim e.u e.v e.rel (follows_more instance (excludes es) X rest e.dim e.u e.v e.rel k)

    go : IsSubset (excludes es) X → (is_of e i u v r ≡ true) ⊎ (excludes es i u v r ≡ true) → IsTrue (X i u v r)
    go rest (inl k) = of_own (λ j a b s. IsTrue (X j a b s)) symmetric e i u v r k (own rest d.0)
    go rest (inr k) = rest i u v r k

-- what holds of u, v holds mirrored of v, u
pub holds_mirrored : (instance : PlainInstance) (places : List ℕ) (i u v : ℕ) (r : Rel) → Holds instance places i u v r
    → Holds instance places i v u (mirror r)
holds_mirrored instance places i u v Overlap h = (h.1, h.0)
holds_mirrored instance places i u v Before h = h
holds_mirrored instance places i u v After h = h

-- a packing that respects E respects each derivation from E
pub derivation_sound : (instance : PlainInstance) (places : List ℕ) (E : Exclusions) → HasPositiveSides instance
    → IsPacking instance places → Respects instance places E
    → (es : List Exclusion) → IsDerivation instance E es → Respects instance places (excludes es)
derivation_sound instance places E sides packing respects [] d i u v r h = absurd (true≢false (sym h))
derivation_sound instance places E sides packing respects (e ∷ es) d i u v r h =
    go (derivation_sound instance places E sides packing respects es d.1) (or_cases _ _ h)
  where
    own : Respects instance places (excludes es) → IsTrue (E e.dim e.u e.v e.rel)
        ⊎ Follows instance (excludes es) e.dim e.u e.v e.rel → ¬ Holds instance places e.dim e.u e.v e.rel
    own rest (inl k) = respects e.dim e.u e.v e.rel k
    own rest (inr k) = follows_sound instance places (excludes es) sides packing rest e.dim e.u e.v e.rel k

    mirrored : (j a b : ℕ) (s : Rel) → ¬ Holds instance places j a b s → ¬ Holds instance places j b a (mirror s)
    mirrored j a b s none k =
        let back = holds_mirrored instance places j b a (mirror s) k in
        none (subst (λ (x : Rel). Holds instance places j a b x) (mirror_twice s) back)

    go : Respects instance places (excludes es) → (is_of e i u v r ≡ true) ⊎ (excludes es i u v r ≡ true)
        → ¬ Holds instance places i u v r
    go rest (inl k) = of_own (λ j a b s. ¬ Holds instance places j a b s) mirrored e i u v r k (own rest d.0)
    go rest (inr k) = rest i u v r k

-- the closure is sound
pub derived_sound : (instance : PlainInstance) (places : List ℕ) (E : Exclusions) → HasPositiveSides instance
    → IsPacking instance places → Respects instance places E
    → (i u v : ℕ) (r : Rel) → IsDerived instance E i u v r → ¬ Holds instance places i u v r
derived_sound instance places E sides packing respects i u v r d =
    derivation_sound instance places E sides packing respects d.steps d.derivation i u v r d.stands

-- no packing respects a set whose closure has a conflict
pub conflict_sound : (instance : PlainInstance) (places : List ℕ) (E : Exclusions) → HasPositiveSides instance
    → IsPacking instance places → HasConflict instance E
    → ¬ Respects instance places E
conflict_sound instance places E sides packing c respects = go (some_relation _ _ _ _)
  where
    go : (r : Rel) × Holds instance places c.dim c.u c.v r → ⊥
    go (r, h) = derived_sound instance places E sides packing respects c.dim c.u c.v r (c.each r) h
