-- The pairs by rank, as they are built.
use Rattle.std.proofs.Common.{◌≡◌, ℕ, ◌+◌, ◌<◌, sym, ap, ◌∙◌, List, [], ◌∷◌, ◌++◌, length, get_or, map, take, drop}
use Rattle.std.proofs.Common.{append_assoc}
use Rattle.std.proofs.lemmas.List.{drop_more, take_more}
use Rattle.packing_terms.specs.Packing.{PlainInstance}
use Rattle.packing_terms.specs.Rank.{in_order, pairs_after, ranked_pairs}

pub pairs_next : (instance : PlainInstance) (pairs more : List (ℕ × ℕ)) (order : List ℕ) (k : ℕ) → k < length order
    → pairs ++ pairs_after (take k order) (drop k order) ≡ ranked_pairs instance
    → more ≡ pairs ++ map (λ u. in_order u (get_or order k 0)) (take k order)
    → more ++ pairs_after (take (k + 1) order) (drop (k + 1) order) ≡ ranked_pairs instance
pairs_next instance pairs more order k l h e =
    rw (e, take_more order k 0 l) (append_assoc pairs (map (λ u. in_order u (get_or order k 0)) (take k order))
    (pairs_after (take k order ++ get_or order k 0 ∷ []) (drop (k + 1) order))
    ∙ (ap (λ (rest : List ℕ). pairs ++ pairs_after (take k order) rest) (sym (drop_more order k 0 l)) ∙ h))
