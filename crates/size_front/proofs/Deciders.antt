-- The rank of the boxes doesn't depend on the container.
use Rattle.std.proofs.Common.{◌≡◌, ℕ, refl, sym, ap, List, [], ◌∷◌}
use Rattle.std.specs.List.{fold}
use Rattle.packing_terms.specs.Packing.{PlainInstance, dims, box_count, side}
use Rattle.packing_terms.specs.Sums.{product_below, below}
use Rattle.packing_terms.specs.Rank.{volume, insert_by_volume, pairs_after, ranked_pairs}
use Rattle.class_search.specs.Deciders.{decider_of}
use Rattle.verdict_terms.specs.Fronts.{with_container}

module _ (instance : PlainInstance) (plane : dims instance ≡ 2) (w h : ℕ) where
  same_volume : (v : ℕ) → volume (with_container instance w h) v ≡ volume instance v
  same_volume v = ap (λ (d : ℕ). product_below d (λ i. side instance v i)) (sym plane)

  same_insert : (v : ℕ) (us : List ℕ) → insert_by_volume (with_container instance w h) v us
      ≡ insert_by_volume instance v us
  same_insert v [] = refl
  same_insert v (u ∷ us) =
      rw (same_volume u, same_volume v, same_insert v us) refl

  same_fold : (vs us : List ℕ) → fold (λ us v. insert_by_volume (with_container instance w h) v us) us vs
      ≡ fold (λ us v. insert_by_volume instance v us) us vs
  same_fold [] us = refl
  same_fold (v ∷ vs) us = rw (same_insert v us) (same_fold vs (insert_by_volume instance v us))

  pub same_decider : decider_of (with_container instance w h) ≡ decider_of instance
  same_decider =
      let d : 2 ≡ dims instance = sym plane in
      let r : ranked_pairs (with_container instance w h) ≡ ranked_pairs instance =
      ap (λ (vs : List ℕ). pairs_after [] vs) (same_fold (below (box_count instance)) []) in
      rw (d, r) refl
