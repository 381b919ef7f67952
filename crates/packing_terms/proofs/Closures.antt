-- Derivations depend on the closure alone: where F derives each exclusion of E, it derives all that E derives.
use Rattle.std.proofs.Common.{◌≡◌, ℕ, ◌⊎◌, inl, inr, true, List, [], ◌∷◌, ◌++◌, IsTrue}
use Rattle.std.proofs.lemmas.Bool.{or_cases}
use Rattle.packing_terms.specs.declared.Rel.{Rel}
use Rattle.packing_terms.specs.declared.Exclusion.{Exclusion}
use Rattle.packing_terms.specs.Packing.{PlainInstance}
use Rattle.packing_terms.specs.Exclusions.{Exclusions, is_of, excludes}
use Rattle.packing_terms.specs.Rules.{Follows}
use Rattle.packing_terms.specs.Closure.{IsDerivation, IsDerived, HasConflict, AreDerived, IsSubset, Derives}
use Rattle.packing_terms.proofs.Sets.{of_own, or_true, excludes_symmetric, excludes_left, excludes_right, is_at_own}
use Rattle.packing_terms.proofs.Monotone.{follows_more}

module _ (instance : PlainInstance) where
  -- a derivation put before another is a derivation
  derivations_join : (E : Exclusions) (es fs : List Exclusion) → IsDerivation instance E es → IsDerivation instance E fs
      → IsDerivation instance E (es ++ fs)
  derivations_join E [] fs d f = f
  derivations_join E (e ∷ es) fs d f = (go d.0, derivations_join E es fs d.1 f)
    where
      go : IsTrue (E e.dim e.u e.v e.rel) ⊎ Follows instance (excludes es) e.dim e.u e.v e.rel
          → IsTrue (E e.dim e.u e.v e.rel) ⊎ Follows instance (excludes (es ++ fs)) e.dim e.u e.v e.rel
      go (inl k) = inl k
      go (inr k) = inr (follows_more instance (excludes es) (excludes (es ++ fs)) (excludes_left es fs) e.dim e.u
          e.v e.rel k)

  -- a derivation from F that has what the list has
  record Reaches (F : Exclusions) (es : List Exclusion) : Type 0 where
    steps : List Exclusion
    derivation : IsDerivation instance F steps
    holds : IsSubset (excludes es) (excludes steps)

  reaches : (E F : Exclusions) → AreDerived instance F E → (es : List Exclusion) → IsDerivation instance E es
      → Reaches F es
  reaches E F derived [] d = record { steps = []; derivation = tt; holds = λ i u v r h. h }
  reaches E F derived (e ∷ es) d = go d.0 (reaches E F derived es d.1)
    where
      cases : (steps : List Exclusion) → IsTrue (excludes steps e.dim e.u e.v e.rel)
          → IsSubset (excludes es) (excludes steps)
          → IsSubset (excludes (e ∷ es)) (excludes steps)
      cases steps own rest i u v r h = pick (or_cases _ _ h)
        where
          pick : (is_of e i u v r ≡ true) ⊎ (excludes es i u v r ≡ true) → IsTrue (excludes steps i u v r)
          pick (inl k) = of_own (λ j a b s. IsTrue (excludes steps j a b s)) (excludes_symmetric steps) e i u v r k own
          pick (inr k) = rest i u v r k

      go : IsTrue (E e.dim e.u e.v e.rel) ⊎ Follows instance (excludes es) e.dim e.u e.v e.rel → Reaches F es
          → Reaches F (e ∷ es)
      go (inl k) rest =
          let own : IsDerived instance F e.dim e.u e.v e.rel = derived e.dim e.u e.v e.rel k in
          record {
            steps = own.steps ++ rest.steps;
            derivation = derivations_join F own.steps rest.steps own.derivation rest.derivation;
            holds = cases (own.steps ++ rest.steps) (excludes_left own.steps rest.steps e.dim e.u e.v e.rel own.stands)
                (λ i u v r h. excludes_right own.steps rest.steps i u v r (rest.holds i u v r h));
          }
      go (inr k) rest = record {
        steps = e ∷ rest.steps;
        derivation = (
          inr (follows_more instance (excludes es) (excludes rest.steps) rest.holds e.dim e.u e.v e.rel k),
          rest.derivation,
        );
        holds = cases (e ∷ rest.steps) (or_true _ _ (inl (or_true _ _ (inl (is_at_own e)))))
            (λ i u v r h. or_true _ _ (inr (rest.holds i u v r h)));
      }

  pub derives_from : (E F : Exclusions) → AreDerived instance F E → Derives instance E F
  derives_from E F derived i u v r d =
      let h = reaches E F derived d.steps d.derivation in
      record { steps = h.steps; derivation = h.derivation; stands = h.holds i u v r d.stands }

  -- what is given is derived
  pub given_derived : (es : List Exclusion) → AreDerived instance (excludes es) (excludes es)
  given_derived es i u v r h = record { steps = es; derivation = given es (λ j a b s k. k); stands = h }
    where
      given : (fs : List Exclusion) → IsSubset (excludes fs) (excludes es) → IsDerivation instance (excludes es) fs
      given [] k = tt
      given (f ∷ fs) k = (
        inl (k f.dim f.u f.v f.rel (or_true _ _ (inl (or_true _ _ (inl (is_at_own f)))))),
        given fs (λ j a b s l. k j a b s (or_true _ _ (inr l))),
      )

  -- one more exclusion on both sides
  pub derives_more : (e : Exclusion) (es fs : List Exclusion) → Derives instance (excludes es) (excludes fs)
      → Derives instance (excludes (e ∷ es)) (excludes (e ∷ fs))
  derives_more e es fs h = derives_from (excludes (e ∷ es)) (excludes (e ∷ fs))
      (λ i u v r k. go i u v r (or_cases _ _ k))
    where
      go : (i u v : ℕ) (r : Rel) → (is_of e i u v r ≡ true) ⊎ (excludes es i u v r ≡ true)
          → IsDerived instance (excludes (e ∷ fs)) i u v r
      go i u v r (inl k) = given_derived (e ∷ fs) i u v r (or_true _ _ (inl k))
      go i u v r (inr k) =
          derives_from (excludes fs) (excludes (e ∷ fs))
          (λ j a b s l. given_derived (e ∷ fs) j a b s (or_true _ _ (inr l))) i u v r
          (h i u v r (given_derived es i u v r k))

  -- a conflict of the closure is one of each set that derives as much
  pub conflict_from : (E F : Exclusions) → Derives instance E F → HasConflict instance E → HasConflict instance F
  conflict_from E F h c = record {
    dim = c.dim;
    u = c.u;
    v = c.v;
    edge = c.edge;
    each = λ r. h c.dim c.u c.v r (c.each r);
  }
