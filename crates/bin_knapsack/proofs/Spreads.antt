-- Each box alone in a bin, one box after another.
use Rattle.std.proofs.Common.{◌≡◌, ℕ, ◌+◌, sym, ap, ap₂, ◌∙◌, List, [], ◌∷◌, ◌++◌, map, append_assoc, arith}
use Rattle.std.specs.List.{flat_map}
use Rattle.std.proofs.lemmas.List.FromFn.{map-range_with_len_more}
use Rattle.packing_terms.specs.Packing.{PlainInstance, dims}
use Rattle.packing_terms.proofs.Ranges.{flat_map_last_below}
use Rattle.packing_terms.specs.Sums.{below}
use Rattle.bin_knapsack.specs.Alone.{alone}

-- one coordinate more
pub zero_next : (numbers more start : List ℕ) (bin k : ℕ) → numbers ≡ start ++ bin ∷ map (λ i. 0) (below k)
    → more ≡ numbers ++ 0 ∷ []
    → more ≡ start ++ bin ∷ map (λ i. 0) (below (k + 1))
zero_next numbers more start bin k h m =
    m ∙ (ap (λ (xs : List ℕ). xs ++ 0 ∷ []) h ∙ (append_assoc start (bin ∷ map (λ i. 0) (below k)) (0 ∷ [])
    ∙ ap (λ (xs : List ℕ). start ++ bin ∷ xs) (sym (map-range_with_len_more (λ i. 0) 0 k k (omega arith)))))

-- one box more
pub spread_next : (instance : PlainInstance) (numbers more : List ℕ) (d v : ℕ)
    → numbers ≡ flat_map (alone (dims instance)) (below v) → d ≡ dims instance
    → more ≡ numbers ++ alone d v → more ≡ flat_map (alone (dims instance)) (below (v + 1))
spread_next instance numbers more d v h e m =
    m ∙ (ap₂ (λ (xs : List ℕ) (k : ℕ). xs ++ alone k v) h e ∙ sym (flat_map_last_below (alone (dims instance)) v))
