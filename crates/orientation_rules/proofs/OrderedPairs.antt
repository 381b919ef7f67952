-- The mask of a pair says whether one of its boxes is surely before the other.
use Rattle.std.proofs.Common.{◌≡◌, ℕ, ◌<◌, sym, ◌∙◌, arith, Bool, true, false, not, List, zero, suc, ◌⊎◌, inl, inr, refl}
use Rattle.std.proofs.lemmas.Bool.{true≢false}
use Rattle.packing_terms.specs.declared.Rel.{Rel}
use Rattle.packing_terms.specs.declared.Rel.TheVariants.{Overlap, Before, After}
use Rattle.packing_terms.specs.declared.Exclusion.{Exclusion}
use Rattle.packing_terms.specs.Exclusions.{excludes}
use Rattle.packing_terms.proofs.Sets.{excludes_symmetric}
use Rattle.relation_table.specs.Masks.{mask_has}
use Rattle.edge_state.specs.Work.{IsUnordered}
use Rattle.orientation_rules.specs.Pending.{IsOrderedPair}

-- what a mask has isn't excluded, and what it hasn't is
had : (m x : Bool) → m ≡ not x → m ≡ true → x ≡ true → ⊥
had m true e h _ = true≢false (sym h ∙ e)
had m false e h f = true≢false (sym f)

hadnt : (m x : Bool) → m ≡ not x → m ≡ false → x ≡ true
hadnt m true e h = refl
hadnt m false e h = absurd (true≢false (sym e ∙ h))

module _ (es : List Exclusion) (e : Exclusion) (left : ℕ)
    (has : (r : Rel) → mask_has left r ≡ not (excludes es e.dim e.u e.v r)) where
  pub first_before : left ≡ 2 → IsOrderedPair (excludes es) e e.u e.v
  first_before two = record {
    forth = (
      hadnt _ _ (has Overlap) (rw two refl),
      hadnt _ _ (has After) (rw two refl),
    );
    back = λ lead. had _ _ (has Before) (rw two refl) (excludes_symmetric es e.dim e.v e.u After lead.1);
    at = inl (refl, refl);
  }

  pub second_before : left ≡ 4 → IsOrderedPair (excludes es) e e.v e.u
  second_before four = record {
    forth = (
      excludes_symmetric es e.dim e.u e.v Overlap (hadnt _ _ (has Overlap) (rw four refl)),
      excludes_symmetric es e.dim e.u e.v Before (hadnt _ _ (has Before) (rw four refl)),
    );
    back = λ lead. had _ _ (has After) (rw four refl) lead.1;
    at = inr (refl, refl);
  }

  pub none_before : left < 8 → (left ≡ 0 → ⊥) → (left ≡ 2 → ⊥) → (left ≡ 4 → ⊥) → IsUnordered (excludes es) e
  none_before small some two four = record {
    forth = λ near after. go left refl near after;
    back = λ near after. back left refl (excludes_symmetric es e.dim e.v e.u Overlap near)
        (excludes_symmetric es e.dim e.v e.u After after);
  }
    where
      go : (l : ℕ) → l ≡ left → excludes es e.dim e.u e.v Overlap ≡ true → excludes es e.dim e.u e.v After ≡ true → ⊥
      go zero is near after = some (sym is)
      go (suc zero) is near after = had _ _ (has Overlap) (rw (← is) refl) near
      go (suc (suc zero)) is near after = two (sym is)
      go (suc (suc (suc zero))) is near after = had _ _ (has Overlap) (rw (← is) refl) near
      go (suc (suc (suc (suc zero)))) is near after = four (sym is)
      go (suc (suc (suc (suc (suc zero))))) is near after = had _ _ (has Overlap) (rw (← is) refl) near
      go (suc (suc (suc (suc (suc (suc zero)))))) is near after = had _ _ (has After) (rw (← is) refl) after
      go (suc (suc (suc (suc (suc (suc (suc zero))))))) is near after = had _ _ (has Overlap) (rw (← is) refl) near
      go (suc (suc (suc (suc (suc (suc (suc (suc l)))))))) is near after = absurd (omega (arith, is, small))

      back : (l : ℕ) → l ≡ left → excludes es e.dim e.u e.v Overlap ≡ true → excludes es e.dim e.u e.v Before ≡ true
          → ⊥
      back zero is near before = some (sym is)
      back (suc zero) is near before = had _ _ (has Overlap) (rw (← is) refl) near
      back (suc (suc zero)) is near before = two (sym is)
      back (suc (suc (suc zero))) is near before = had _ _ (has Overlap) (rw (← is) refl) near
      back (suc (suc (suc (suc zero)))) is near before = four (sym is)
      back (suc (suc (suc (suc (suc zero))))) is near before = had _ _ (has Overlap) (rw (← is) refl) near
      back (suc (suc (suc (suc (suc (suc zero)))))) is near before = had _ _ (has Before) (rw (← is) refl) before
      back (suc (suc (suc (suc (suc (suc (suc zero))))))) is near before = had _ _ (has Overlap) (rw (← is) refl) near
      back (suc (suc (suc (suc (suc (suc (suc (suc l)))))))) is near before = absurd (omega (arith, is, small))

-- both boxes of the pair are there, and differ
pub pair_there : (es : List Exclusion) (e : Exclusion) (n a b : ℕ) → IsOrderedPair (excludes es) e a b → e.u < n
    → e.v < n → (e.u ≡ e.v → ⊥) → (a < n) × (b < n) × (a ≡ b → ⊥)
pair_there es e n a b pair hu hv ne = go pair.at
  where
    go : ((a ≡ e.u) × (b ≡ e.v)) ⊎ ((a ≡ e.v) × (b ≡ e.u)) → (a < n) × (b < n) × (a ≡ b → ⊥)
    go (inl h) = rw (h.0, h.1) (hu, hv, ne)
    go (inr h) = rw (h.0, h.1) (hv, hu, λ f. ne (sym f))
