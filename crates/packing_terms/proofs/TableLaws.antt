-- What follows from derived exclusions by one rule is derived.
use Rattle.std.proofs.Common.{◌≡◌, ℕ, ◌⊎◌, inl, inr, refl, true, List, [], ◌∷◌, ◌++◌, IsTrue}
use Rattle.std.proofs.lemmas.Bool.{or_cases}
use Rattle.packing_terms.specs.declared.Rel.{Rel}
use Rattle.packing_terms.specs.declared.Exclusion.{Exclusion}
use Rattle.packing_terms.specs.Packing.{PlainInstance}
use Rattle.packing_terms.specs.Exclusions.{Exclusions, excludes, is_of}
use Rattle.packing_terms.specs.Rules.{Follows}
use Rattle.packing_terms.specs.Closure.{IsDerivation, IsDerived, IsSubset, AreDerived}
use Rattle.packing_terms.proofs.Sets.{or_true, of_own, excludes_symmetric, excludes_left, excludes_right}
use Rattle.packing_terms.proofs.Monotone.{follows_more}
use Rattle.packing_terms.proofs.RoundsLemmas.{excludes_own}

module _ (instance : PlainInstance) (E : Exclusions) where
  -- two derivations, one after the other
  join : (es fs : List Exclusion) → IsDerivation instance E es → IsDerivation instance E fs
      → IsDerivation instance E (es ++ fs)
  join [] fs d k = k
  join (e ∷ es) fs d k = (go d.0, join es fs d.1 k)
    where
      go : IsTrue (E e.dim e.u e.v e.rel) ⊎ Follows instance (excludes es) e.dim e.u e.v e.rel
          → IsTrue (E e.dim e.u e.v e.rel) ⊎ Follows instance (excludes (es ++ fs)) e.dim e.u e.v e.rel
      go (inl h) = inl h
      go (inr h) = inr (follows_more instance (excludes es) (excludes (es ++ fs)) (excludes_left es fs) e.dim e.u
          e.v e.rel h)

  -- one derivation that has all exclusions of a list
  pub record HasAll (es : List Exclusion) : Type 0 where
    pub steps : List Exclusion
    pub derivation : IsDerivation instance E steps
    pub all : IsSubset (excludes es) (excludes steps)

  has_all : (es : List Exclusion) → AreDerived instance E (excludes es) → HasAll es
  has_all [] h = record { steps = []; derivation = tt; all = λ i u v r k. k }
  has_all (e ∷ es) h = both (h e.dim e.u e.v e.rel (excludes_own e (e ∷ es) (inl refl)))
      (has_all es (λ i u v r k. h i u v r (or_true _ _ (inr k))))
    where
      both : IsDerived instance E e.dim e.u e.v e.rel → HasAll es → HasAll (e ∷ es)
      both d rest = record {
        steps = d.steps ++ rest.steps;
        derivation = join d.steps rest.steps d.derivation rest.derivation;
        all = λ i u v r k. go i u v r (or_cases _ _ k);
      }
        where
          go : (i u v : ℕ) (r : Rel) → (is_of e i u v r ≡ true) ⊎ (excludes es i u v r ≡ true)
              → IsTrue (excludes (d.steps ++ rest.steps) i u v r)
          go i u v r (inl k) = excludes_left d.steps rest.steps i u v r
              (of_own (λ j a b q. IsTrue (excludes d.steps j a b q)) (excludes_symmetric d.steps) e i u v r k d.stands)
          go i u v r (inr k) = excludes_right d.steps rest.steps i u v r (rest.all i u v r k)

  pub rule_derived : (es : List Exclusion) → AreDerived instance E (excludes es) → (i u v : ℕ) (r : Rel)
      → Follows instance (excludes es) i u v r
      → IsDerived instance E i u v r
  rule_derived es h i u v r follows = go (has_all es h)
    where
      go : HasAll es → IsDerived instance E i u v r
      go k =
          let e : Exclusion = record { dim = i; u = u; v = v; rel = r } in
          record {
            steps = e ∷ k.steps;
            derivation = (
              inr (follows_more instance (excludes es) (excludes k.steps) k.all i u v r follows),
              k.derivation,
            );
            stands = excludes_own e (e ∷ k.steps) (inl refl);
          }
