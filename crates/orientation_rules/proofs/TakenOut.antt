-- What leaving only some relations at a pair takes out.
use Rattle.std.proofs.Common.{◌≡◌, ◌↔◌, ℕ, ◌⊎◌, inl, inr, refl, sym, subst, Bool, true, false, cond, List}
use Rattle.packing_terms.specs.declared.Rel.{Rel}
use Rattle.packing_terms.specs.declared.Rel.TheVariants.{Overlap, Before, After}
use Rattle.packing_terms.specs.declared.Exclusion.{Exclusion}
use Rattle.packing_terms.specs.Relations.{mirror}
use Rattle.packing_terms.specs.Exclusions.{excludes, is_of, exclusion_at}
use Rattle.packing_terms.specs.Closure.{IsSubset}
use Rattle.packing_terms.proofs.Sets.{of_own, mirror_twice, excludes_symmetric}
use Rattle.packing_terms.specs.Steps.{with_exclusion}
use Rattle.packing_terms.specs.Applied.{narrowed_by, narrowed}
use Rattle.packing_terms.proofs.Applied.{with_cases, with_keeps, with_own}
use Rattle.orientation_rules.specs.Kept.{IsTakenOut, taken, mirror_taken}

module _ (i u v : ℕ) (keep : Rel → Bool) where
  turned : (j a b : ℕ) (r : Rel) → IsTakenOut i u v keep j a b r → IsTakenOut i u v keep j b a (mirror r)
  turned _ _ _ _ (taken r k) = mirror_taken r k
  turned _ _ _ _ (mirror_taken r k) =
      subst (λ (x : Rel). IsTakenOut i u v keep i u v x) (sym (mirror_twice r)) (taken r k)

  by_cases : (es : List Exclusion) (q : Rel) (j a b : ℕ) (r : Rel)
      → excludes (narrowed_by es i u v keep q) j a b r ≡ true
      → (excludes es j a b r ≡ true) ⊎ IsTakenOut i u v keep j a b r
  by_cases es q j a b r = go (keep q) refl
    where
      told : keep q ≡ false → (excludes es j a b r ≡ true) ⊎ (is_of (exclusion_at i u v q) j a b r ≡ true)
          → (excludes es j a b r ≡ true) ⊎ IsTakenOut i u v keep j a b r
      told k (inl f) = inl f
      told k (inr f) = inr (of_own (IsTakenOut i u v keep) turned (exclusion_at i u v q) j a b r f (taken q k))

      go : (x : Bool) → keep q ≡ x → excludes (cond x es (with_exclusion es (exclusion_at i u v q))) j a b r ≡ true
          → (excludes es j a b r ≡ true) ⊎ IsTakenOut i u v keep j a b r
      go true k h = inl h
      go false k h = told k (with_cases es (exclusion_at i u v q) j a b r h)

  by_keeps : (es : List Exclusion) (q : Rel) → IsSubset (excludes es) (excludes (narrowed_by es i u v keep q))
  by_keeps es q = go (keep q)
    where
      go : (x : Bool) → IsSubset (excludes es) (excludes (cond x es (with_exclusion es (exclusion_at i u v q))))
      go true j a b r h = h
      go false j a b r h = with_keeps es (exclusion_at i u v q) j a b r h

  by_own : (es : List Exclusion) (q : Rel) → keep q ≡ false → excludes (narrowed_by es i u v keep q) i u v q ≡ true
  by_own es q k = rw k (with_own es (exclusion_at i u v q))

  later : (es : List Exclusion) → IsSubset (excludes (narrowed_by es i u v keep Overlap))
      (excludes (narrowed es i u v keep))
  later es j a b r h =
      by_keeps (narrowed_by (narrowed_by es i u v keep Overlap) i u v keep Before) After j a b r
      (by_keeps (narrowed_by es i u v keep Overlap) Before j a b r h)

  own : (es : List Exclusion) (q : Rel) → keep q ≡ false → excludes (narrowed es i u v keep) i u v q ≡ true
  own es Overlap k = later es i u v Overlap (by_own es Overlap k)
  own es Before k =
      by_keeps (narrowed_by (narrowed_by es i u v keep Overlap) i u v keep Before) After i u v Before
      (by_own (narrowed_by es i u v keep Overlap) Before k)
  own es After k = by_own (narrowed_by (narrowed_by es i u v keep Overlap) i u v keep Before) After k

  out : (es : List Exclusion) (j a b : ℕ) (r : Rel) → IsTakenOut i u v keep j a b r
      → excludes (narrowed es i u v keep) j a b r ≡ true
  out es _ _ _ _ (taken r k) = own es r k
  out es _ _ _ _ (mirror_taken r k) = excludes_symmetric (narrowed es i u v keep) i u v r (own es r k)

  -- exactly what was excluded before, and what isn't kept at the edge, is excluded
  pub taken_exactly : (es : List Exclusion) (j a b : ℕ) (r : Rel)
      → (excludes (narrowed es i u v keep) j a b r ≡ true) ↔
      ((excludes es j a b r ≡ true) ⊎ IsTakenOut i u v keep j a b r)
  taken_exactly es j a b r = (
    λ h. third
        (by_cases (narrowed_by (narrowed_by es i u v keep Overlap) i u v keep Before) After j a b r h),
    back,
  )
    where
      second : (excludes (narrowed_by es i u v keep Overlap) j a b r ≡ true) ⊎ IsTakenOut i u v keep j a b r
          → (excludes es j a b r ≡ true) ⊎ IsTakenOut i u v keep j a b r
      second (inl h) = by_cases es Overlap j a b r h
      second (inr h) = inr h

      third : (excludes (narrowed_by (narrowed_by es i u v keep Overlap) i u v keep Before) j a b r ≡ true)
          ⊎ IsTakenOut i u v keep j a b r
          → (excludes es j a b r ≡ true) ⊎ IsTakenOut i u v keep j a b r
      third (inl h) = second (by_cases (narrowed_by es i u v keep Overlap) Before j a b r h)
      third (inr h) = inr h

      back : (excludes es j a b r ≡ true) ⊎ IsTakenOut i u v keep j a b r
          → excludes (narrowed es i u v keep) j a b r ≡ true
      back (inl h) = later es j a b r (by_keeps es Overlap j a b r h)
      back (inr h) = out es j a b r h
