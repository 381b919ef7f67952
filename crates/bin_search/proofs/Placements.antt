-- The bins of a child: those of its node with the changed one.
use Rattle.std.proofs.Common.{◌≡◌, ℕ, zero, suc, ◌+◌, ◌<◌, ◌≤◌, ◌⊎◌, inl, inr, refl, sym, ap, ◌∙◌, arith, Bool, true}
use Rattle.std.proofs.Common.{false, ltb, if◌then◌else◌, [], ◌∷◌, ◌++◌, length, get_or, map}
use Rattle.std.specs.List.{range_with_len}
use Rattle.std.proofs.lemmas.Bool.{ltb-true}
use Rattle.std.proofs.lemmas.List.{length-append}
use Rattle.packing_terms.specs.OuterRefutation.{Bins, insert_box, with_box, placements}
use Rattle.packing_terms.proofs.WithBoxes.{child_is}
use Rattle.tree_terms.specs.OuterTrees.{with_answer}
use Rattle.tree_terms.proofs.BinSearch.{answer_own}
use Rattle.bin_search.specs.Nodes.{child_count}
use Rattle.std.proofs.lemmas.List.FromFn.{length-map-range_with_len}

with_box_at : (bins : Bins) (b v : ℕ) → b < length bins
    → with_box bins b v ≡ with_answer bins b (insert_box v (get_or bins b []))
with_box_at [] b v l = absurd (omega (arith, l))
with_box_at (us ∷ bins) zero v l = refl
with_box_at (us ∷ bins) (suc b) v l = ap (λ (x : Bins). us ∷ x) (with_box_at bins b v (omega (arith, l)))

new_bin : (bins : Bins) (v : ℕ)
    → bins ++ (v ∷ []) ∷ [] ≡ with_answer bins (length bins) (insert_box v (get_or bins (length bins) []))
new_bin [] v = refl
new_bin (us ∷ bins) v = ap (λ (x : Bins). us ∷ x) (new_bin bins v)

pub placed_at : (k : ℕ) (bins : Bins) (v b : ℕ) → b < length (placements k bins v)
    → get_or (placements k bins v) b [] ≡ with_answer bins b (insert_box v (get_or bins b []))
placed_at k bins v b l = go (child_is k bins [] v b l)
  where
    go : ((b < length bins) × (get_or (placements k bins v) b [] ≡ with_box bins b v))
        ⊎ ((b ≡ length bins) × (length bins < k) × (get_or (placements k bins v) b [] ≡ bins ++ (v ∷ []) ∷ []))
        → get_or (placements k bins v) b [] ≡ with_answer bins b (insert_box v (get_or bins b []))
    go (inl (m, e)) = e ∙ with_box_at bins b v m
    go (inr (f, m, e)) = e ∙ (new_bin bins v ∙ ap (λ c. with_answer bins c (insert_box v (get_or bins c []))) (sym f))

-- the changed bin of a child
pub changed_at : (k : ℕ) (bins : Bins) (v b : ℕ) → b < length (placements k bins v)
    → get_or (get_or (placements k bins v) b []) b [] ≡ insert_box v (get_or bins b [])
changed_at k bins v b l =
    ap (λ (x : Bins). get_or x b []) (placed_at k bins v b l) ∙ answer_own bins b (insert_box v (get_or bins b []))
    (go (child_is k bins [] v b l))
  where
    go : ((b < length bins) × (get_or (placements k bins v) b [] ≡ with_box bins b v))
        ⊎ ((b ≡ length bins) × (length bins < k) × (get_or (placements k bins v) b [] ≡ bins ++ (v ∷ []) ∷ []))
        → b ≤ length bins
    go (inl (m, e)) = omega (arith, m)
    go (inr (f, m, e)) = omega (arith, f)

-- the number of children
pub placements_count : (k : ℕ) (bins : Bins) (v : ℕ) → length (placements k bins v) ≡ child_count k bins
placements_count k bins v =
    length-append (map (λ c. with_box bins c v) (range_with_len 0 (length bins)))
    (if ltb (length bins) k then (bins ++ (v ∷ []) ∷ []) ∷ [] else [])
    ∙ (ap (λ n. n + length (if ltb (length bins) k then (bins ++ (v ∷ []) ∷ []) ∷ [] else []))
    (length-map-range_with_len (λ c. with_box bins c v) 0 (length bins))
    ∙ go (ltb (length bins) k))
  where
    go : (t : Bool) → length bins + length (if t then (bins ++ (v ∷ []) ∷ []) ∷ [] else [])
        ≡ (if t then length bins + 1 else length bins)
    go true = refl
    go false = omega arith

-- no more children than bins
pub few_children : (k : ℕ) (bins : Bins) (v : ℕ) → length bins ≤ k → length (placements k bins v) ≤ k
few_children k bins v l = let e = placements_count k bins v in let h = go (ltb (length bins) k) refl in
    omega (arith, e, h)
  where
    go : (t : Bool) → ltb (length bins) k ≡ t → (if t then length bins + 1 else length bins) ≤ k
    go true f = let m = ltb-true (length bins) k f in omega (arith, m)
    go false f = l
