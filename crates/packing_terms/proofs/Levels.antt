-- Symmetry facts don't depend on the container, and what is refuted under them doesn't fit.
use Rattle.std.proofs.Common.{◌≡◌, ℕ, suc, ◌-◌, ◌≤◌, ◌&&◌, ◌==◌, not, arith, refl, sym, subst, ap₂, List, [], ◌∷◌, ◌++◌}
use Rattle.std.proofs.Common.{map, Bool}
use Rattle.std.specs.List.{list_any, list_all, filter, flat_map, fold, range_with_len}
use Rattle.std.proofs.Math.ListN.{length-set}
use Rattle.packing_terms.specs.declared.Exclusion.{Exclusion}
use Rattle.packing_terms.specs.Packing.{PlainInstance, HasPositiveSides, Fits, dims, box_count, written_side}
use Rattle.packing_terms.specs.Sums.{below}
use Rattle.packing_terms.specs.Goals.{with_last_side}
use Rattle.packing_terms.specs.Tokens.{PlainToken}
use Rattle.packing_terms.specs.Refutation.{Refutes}
use Rattle.packing_terms.proofs.Refuted.{refutes_sound}
use Rattle.packing_terms.specs.Rank.{volume, insert_by_volume, ranked}
use Rattle.packing_terms.proofs.Excess.{excess_law}
use Rattle.packing_terms.specs.Facts.{first_two, not_after, not_after_in, symmetry_facts}
use Rattle.packing_terms.proofs.Respected.{some_packing_respects}

module _ (instance : PlainInstance) (h : ℕ) where
  pub same_dims : dims (with_last_side instance h) ≡ dims instance
  same_dims = length-set instance.container (dims instance - 1) h

  same_volume : (v : ℕ) → volume (with_last_side instance h) v ≡ volume instance v
  same_volume v = rw same_dims refl

  same_insert : (v : ℕ) (us : List ℕ) → insert_by_volume (with_last_side instance h) v us
      ≡ insert_by_volume instance v us
  same_insert v [] = refl
  same_insert v (u ∷ us) = rw (same_volume u, same_volume v, same_insert v us) refl

  same_fold : (xs us : List ℕ) → fold (λ ys v. insert_by_volume (with_last_side instance h) v ys) us xs
      ≡ fold (λ ys v. insert_by_volume instance v ys) us xs
  same_fold [] us = refl
  same_fold (x ∷ xs) us = rw (same_insert x us) (same_fold xs (insert_by_volume instance x us))

  pub same_rank : ranked (with_last_side instance h) ≡ ranked instance
  same_rank = same_fold (below (box_count instance)) []

  -- the facts, by the number of dimensions and the boxes by rank
  abbrev equal_over : ℕ → ℕ → ℕ → Bool
  equal_over d u v = list_all (λ i. written_side instance u i == written_side instance v i) (below d)

  abbrev facts_over : ℕ → List ℕ → List Exclusion
  facts_over d order =
      flat_map (λ u. map (λ v. not_after 0 (u, v))
      (filter (λ v. equal_over d u v) (range_with_len (suc u) (box_count instance - suc u))))
      (below (box_count instance))
      ++ not_after_in (0 ∷ []) (first_two
      (filter (λ v. not (list_any (λ u. not (u == v) && equal_over d v u) (below (box_count instance)))) order))
      ++ not_after_in (range_with_len 1 (d - 1)) (first_two order)

  pub level_facts : symmetry_facts (with_last_side instance h) ≡ symmetry_facts instance
  level_facts = ap₂ facts_over same_dims same_rank

-- what is refuted under the facts doesn't fit
pub none_fits_under : (instance : PlainInstance) → HasPositiveSides instance → 1 ≤ dims instance
    → (tokens : List PlainToken) → Refutes instance (symmetry_facts instance) tokens
    → ¬ Fits instance
none_fits_under instance sides some tokens refutes fits =
    let k = some_packing_respects instance sides some fits.0 fits.1 in
    refutes_sound excess_law instance sides k.0 k.1 refutes k.2

-- the same at a height, under the facts of the instance
pub none_fits_at : (instance : PlainInstance) (h : ℕ) → HasPositiveSides (with_last_side instance h) → 1 ≤ dims instance
    → (tokens : List PlainToken)
    → Refutes (with_last_side instance h) (symmetry_facts instance) tokens → ¬ Fits (with_last_side instance h)
none_fits_at instance h sides some tokens refutes =
    none_fits_under (with_last_side instance h) sides
    (let same = same_dims instance h in omega (arith, same, some)) tokens
    (subst (λ (es : List Exclusion). Refutes (with_last_side instance h) es tokens)
    (sym (level_facts instance h)) refutes)
