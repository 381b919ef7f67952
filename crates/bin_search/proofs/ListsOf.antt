-- Lists of vectors, as lists of lists.
use Rattle.std.proofs.Common.{◌≡◌, ℕ, zero, suc, pred, ◌+◌, ◌<◌, ◌≤◌, refl, sym, ap, ◌∙◌, arith, List, [], ◌∷◌, ◌++◌}
use Rattle.std.proofs.Common.{length, take, get_or, slice_set, Vec, Global, append_assoc, ◌==◌}
use Rattle.std.specs.List.{flat_map, position_or_len}
use Rattle.std.proofs.Math.Seq.{take-append_seam}
use Rattle.std.proofs.lemmas.List.{get_or-map, length-append}
use Rattle.packing_terms.specs.Sums.{below}
use Rattle.packing_terms.specs.OuterRefutation.{has_box}
use Rattle.packing_terms.proofs.Ranges.{flat_map_last_below}
use Rattle.tree_terms.specs.OuterTrees.{with_answer, coordinates_at}
use Rattle.bin_search.specs.Lists.{lists_of}

pub replaced : (lists : List (Vec ℕ Global)) (at : ℕ) (list : Vec ℕ Global) → at < length lists
    → lists_of (slice_set lists at list) ≡ with_answer (lists_of lists) at list.items
replaced [] at list l = absurd (omega (arith, l))
replaced (x ∷ xs) zero list l = refl
replaced (x ∷ xs) (suc at) list l = ap (λ (ys : List (List ℕ)). x.items ∷ ys) (replaced xs at list (omega (arith, l)))

pub pushed : (lists : List (Vec ℕ Global)) (at : ℕ) (list : Vec ℕ Global) → length lists ≤ at
    → lists_of (lists ++ list ∷ []) ≡ with_answer (lists_of lists) at list.items
pushed [] zero list l = refl
pushed [] (suc at) list l = refl
pushed (x ∷ xs) zero list l = absurd (omega (arith, l))
pushed (x ∷ xs) (suc at) list l = ap (λ (ys : List (List ℕ)). x.items ∷ ys) (pushed xs at list (omega (arith, l)))

pub set_lists : (lists : List (Vec ℕ Global)) (at : ℕ) (list : Vec ℕ Global)
    → lists_of (slice_set lists at list) ≡ slice_set (lists_of lists) at list.items
set_lists [] at list = refl
set_lists (x ∷ xs) zero list = refl
set_lists (x ∷ xs) (suc at) list = ap (λ (ys : List (List ℕ)). x.items ∷ ys) (set_lists xs at list)

-- what was replaced is put back
pub replaced_back : (lists : List (Vec ℕ Global)) (at : ℕ) (old list : Vec ℕ Global) → at < length lists
    → old ≡ get_or lists at old
    → slice_set (lists_of (slice_set lists at list)) at old.items ≡ lists_of lists
replaced_back [] at old list l e = absurd (omega (arith, l))
replaced_back (x ∷ xs) zero old list l e = ap (λ (y : Vec ℕ Global). y.items ∷ lists_of xs) e
replaced_back (x ∷ xs) (suc at) old list l e =
    ap (λ (ys : List (List ℕ)). x.items ∷ ys) (replaced_back xs at old list (omega (arith, l)) e)

-- what was put behind the others is taken away
pub pushed_back : (lists : List (List ℕ)) (list : List ℕ)
    → take (pred (length (lists ++ list ∷ []))) (lists ++ list ∷ []) ≡ lists
pushed_back lists list =
    let n : pred (length (lists ++ list ∷ [])) ≡ length lists =
    (let e = length-append lists (list ∷ []) in omega (arith, e)) in
    rw n (take-append_seam lists (list ∷ []))

pub list_at : (lists : List (Vec ℕ Global)) (b : ℕ) (x : Vec ℕ Global) → b < length lists → x ≡ get_or lists b x
    → x.items ≡ get_or (lists_of lists) b []
list_at lists b x l e = ap (λ (y : Vec ℕ Global). y.items) e
    ∙ sym (get_or-map (λ (y : Vec ℕ Global). y.items) lists b x [] l)

-- the numbers of one box more
pub numbers_next : (bins answers : List (List ℕ)) (d v b p : ℕ) (all ns : List ℕ)
    → all ≡ flat_map (λ u. let k = position_or_len (has_box u) bins in
    k ∷ coordinates_at d (get_or answers k []) (position_or_len (λ w. w == u) (get_or bins k []))) (below v)
    → b ≡ position_or_len (has_box v) bins → p ≡ position_or_len (λ w. w == v) (get_or bins b [])
    → ns ≡ get_or answers b []
    → (all ++ b ∷ []) ++ coordinates_at d ns p
    ≡ flat_map (λ u. let k = position_or_len (has_box u) bins in
    k ∷ coordinates_at d (get_or answers k []) (position_or_len (λ w. w == u) (get_or bins k []))) (below (v + 1))
numbers_next bins answers d v b p all ns h e f g =
    rw (h, g, f, e) (append_assoc _ (position_or_len (has_box v) bins ∷ []) _
    ∙ sym (flat_map_last_below (λ u. let k = position_or_len (has_box u) bins in
    k ∷ coordinates_at d (get_or answers k []) (position_or_len (λ w. w == u) (get_or bins k []))) v))
