-- Instances with another last side.
use Rattle.std.proofs.Common.{◌≡◌, ℕ, refl, ap, List, []}
use Rattle.packing_terms.specs.Packing.{PlainInstance}
use Rattle.packing_terms.specs.Goals.{with_last_side}
use Rattle.packing_terms.specs.Rank.{pairs_after, ranked_pairs}
use Rattle.packing_terms.proofs.Levels.{same_dims, same_rank}
use Rattle.class_search.specs.Deciders.{decider_of}

-- the rank of the boxes doesn't depend on the last container side
pub same_decider : (instance : PlainInstance) (h : ℕ) → decider_of (with_last_side instance h) ≡ decider_of instance
same_decider instance h =
    let d = same_dims instance h in
    let r : ranked_pairs (with_last_side instance h) ≡ ranked_pairs instance =
    ap (λ (vs : List ℕ). pairs_after [] vs) (same_rank instance h) in
    rw (d, r) refl
