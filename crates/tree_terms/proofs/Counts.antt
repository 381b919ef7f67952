-- The count of an inner tree is below 3 to the number of pairs in all dimensions.
--
-- The measure of a node is the product, over all pairs in all dimensions, of the number of
-- relations that are open there (at least 1). A split has
-- the measures of its two children together in its own.
use Rattle.std.proofs.Common.{◌≡◌, ℕ, zero, suc, ◌+◌, ◌-◌, ◌*◌, ◌/◌, ◌^◌, ◌<◌, ◌≤◌, ◌⊎◌, inl, inr, refl, sym, ap, subst}
use Rattle.std.proofs.Common.{◌∙◌, arith, max, Bool, true, false, not, List, [], ◌∷◌, ◌++◌, map, length, Option, Some}
use Rattle.std.proofs.Common.{None, IsTrue}
use Rattle.std.specs.List.{find, flat_map, range_with_len}
use Rattle.std.proofs.Math.Nat.{le_trans, mul-le-mul_left, pow-le-pow_right, pow-succ', mul-le-mul}
use Rattle.std.proofs.lemmas.Bool.{true≢false, and_parts, or_cases, not-true}
use Rattle.std.proofs.lemmas.List.{length-map, length-append}
use Rattle.std.proofs.lemmas.List.FromFn.{length-range_with_len}
use Rattle.packing_terms.specs.declared.Rel.{Rel}
use Rattle.packing_terms.specs.declared.Rel.TheVariants.{Overlap, Before, After}
use Rattle.packing_terms.specs.declared.Exclusion.{Exclusion}
use Rattle.packing_terms.specs.declared.ScaleFn.{ScaleFn}
use Rattle.packing_terms.specs.Packing.{PlainInstance, dims, box_count}
use Rattle.packing_terms.specs.Exclusions.{Exclusions, excludes}
use Rattle.packing_terms.specs.Closure.{IsSubset}
use Rattle.packing_terms.specs.Tokens.{PlainToken}
use Rattle.packing_terms.proofs.Sets.{or_true}
use Rattle.packing_terms.proofs.Members.{IsIn, in_flat_map, in_map, in_range, range_in}
use Rattle.packing_terms.proofs.Found.{find_some}
use Rattle.packing_terms.proofs.Lengths.{length_parts}
use Rattle.packing_terms.specs.Rounds.{closure, has_empty_mask}
use Rattle.packing_terms.specs.Sums.{below}
use Rattle.packing_terms.proofs.RoundsLemmas.{closure_keeps, excludes_own}
use Rattle.tree_terms.specs.Trees.{SearchTree, Verdict, Yes, No, no_tokens, join, outcome, count_of}
use Rattle.packing_terms.specs.Rank.{ranked_pairs}
use Rattle.tree_terms.specs.InnerTree.{is_settled, is_unsettled, is_apart_somewhere, exclusion_at_pair, has_order_mask}
use Rattle.tree_terms.specs.InnerTree.{has_apart_mask, chosen_split, split_tree, node_of, node_tree, tree_below}
use Rattle.tree_terms.specs.ClassTree.{first_too_large_box, has_closure_conflict, scales_after, root_of, class_tree}
use Rattle.packing_terms.proofs.RankLemmas.{ranked_rise}
use Rattle.tree_terms.proofs.Splits.{order_there, apart_there}
use Rattle.tree_terms.proofs.Joins.{count_join_no}

pub times_le : (a b m n : ℕ) → a ≤ m → b ≤ n → a * b ≤ m * n
times_le a b m n h k = mul-le-mul h k

-- products over a list
product : {X : Type 0} → (X → ℕ) → List X → ℕ
product f [] = 1
product f (x ∷ xs) = f x * product f xs

module _ {X : Type 0} where
  product_less : (f g : X → ℕ) (xs : List X) → ((x : X) → f x ≤ g x) → product f xs ≤ product g xs
  unfolding product
  product_less f g [] h = omega arith
  product_less f g (x ∷ xs) h = times_le (f x) (product f xs) (g x) (product g xs) (h x) (product_less f g xs h)

  product_some : (f : X → ℕ) (xs : List X) → ((x : X) → 1 ≤ f x) → 1 ≤ product f xs
  unfolding product
  product_some f [] h = omega arith
  product_some f (x ∷ xs) h = let m : 1 * 1 ≤ f x * product f xs =
      times_le 1 1 (f x) (product f xs) (h x) (product_some f xs h) in m

  -- two smaller functions that share one element
  product_split : (f g h : X → ℕ) (p : X) (xs : List X) → IsIn p xs → ((x : X) → g x ≤ f x) → ((x : X) → h x ≤ f x)
      → g p + h p ≤ f p
      → product g xs + product h xs ≤ product f xs
  unfolding product
  product_split f g h p [] i a b c = absurd i
  product_split f g h p (x ∷ xs) (inl e) a b c =
      let k = product_less g f xs a in
      let l = product_less h f xs b in
      let m : g x + h x ≤ f x = subst (λ (y : X). g y + h y ≤ f y) e c in
      shared (g x) (h x) (f x) (product g xs) (product h xs) (product f xs) k l m
    where
      shared : (u v w r s t : ℕ) → r ≤ t → s ≤ t → u + v ≤ w → u * r + v * s ≤ w * t
      shared u v w r s t k l m =
          let a : u * r ≤ u * t = mul-le-mul_left u k in
          let b : v * s ≤ v * t = mul-le-mul_left v l in
          let d : (u + v) * t ≡ u * t + v * t = grind arith in
          let c : (u + v) * t ≤ w * t = times_le (u + v) t w t m (omega arith) in
          omega (arith, a, b, c, d)
  product_split f g h p (x ∷ xs) (inr i) a b c =
      let k = product_split f g h p xs i a b c in
      later (g x) (h x) (f x) (product g xs) (product h xs) (product f xs) (a x) (b x) k
    where
      later : (u v w r s t : ℕ) → u ≤ w → v ≤ w → r + s ≤ t → u * r + v * s ≤ w * t
      later u v w r s t k l m =
          let a : u * r ≤ w * r = times_le u r w r k (omega arith) in
          let b : v * s ≤ w * s = times_le v s w s l (omega arith) in
          let d : w * (r + s) ≡ w * r + w * s = grind arith in
          let c : w * (r + s) ≤ w * t = mul-le-mul_left w m in
          omega (arith, a, b, c, d)

-- an edge: a dimension and a pair
abbrev Edge : Type 0
Edge = ℕ × ℕ × ℕ

abbrev pair_edges : ℕ → ℕ → List Edge
pair_edges i v = map (λ u. (i, u, v)) (below v)

abbrev all_edges : ℕ → ℕ → List Edge
all_edges d n = flat_map (λ i. flat_map (λ v. pair_edges i v) (below n)) (below d)

-- 1 where the relation is open
one_if_open : Bool → ℕ
one_if_open true = 0
one_if_open false = 1

-- how many relations are open at an edge, and at least 1
mask_size : Exclusions → Edge → ℕ
mask_size X p = one_if_open (X p.0 p.1 p.2 Overlap)
    + (one_if_open (X p.0 p.1 p.2 Before) + one_if_open (X p.0 p.1 p.2 After))

size_at : Exclusions → Edge → ℕ
size_at X p = max 1 (mask_size X p)

open_less : (a b : Bool) → (a ≡ true → b ≡ true) → one_if_open b ≤ one_if_open a
unfolding one_if_open
open_less true true h = omega arith
open_less true false h = absurd (true≢false (sym (h refl)))
open_less false true h = omega arith
open_less false false h = omega arith

open_most : (a : Bool) → one_if_open a ≤ 1
unfolding one_if_open
open_most true = omega arith
open_most false = omega arith

mask_less : (X Y : Exclusions) → IsSubset X Y → (p : Edge) → mask_size Y p ≤ mask_size X p
unfolding mask_size
mask_less X Y more p =
    let a = open_less (X p.0 p.1 p.2 Overlap) (Y p.0 p.1 p.2 Overlap) (more p.0 p.1 p.2 Overlap) in
    let b = open_less (X p.0 p.1 p.2 Before) (Y p.0 p.1 p.2 Before) (more p.0 p.1 p.2 Before) in
    let c = open_less (X p.0 p.1 p.2 After) (Y p.0 p.1 p.2 After) (more p.0 p.1 p.2 After) in
    omega (arith, a, b, c)

size_less : (X Y : Exclusions) → IsSubset X Y → (p : Edge) → size_at Y p ≤ size_at X p
unfolding size_at
size_less X Y more p = let a = mask_less X Y more p in omega (arith, a)

size_most : (X : Exclusions) (p : Edge) → size_at X p ≤ 3
unfolding size_at mask_size
size_most X p =
    let a = open_most (X p.0 p.1 p.2 Overlap) in
    let b = open_most (X p.0 p.1 p.2 Before) in
    let c = open_most (X p.0 p.1 p.2 After) in
    omega (arith, a, b, c)

size_some : (X : Exclusions) (p : Edge) → 1 ≤ size_at X p
unfolding size_at
size_some X p = omega arith

-- the sizes of two children at the edge of their split
order_sizes : (X Y Z : Exclusions) (p : Edge) → IsSubset X Y → IsSubset X Z → X p.0 p.1 p.2 Overlap ≡ true
    → X p.0 p.1 p.2 Before ≡ false
    → X p.0 p.1 p.2 After ≡ false → Y p.0 p.1 p.2 After ≡ true → Z p.0 p.1 p.2 Before ≡ true
    → size_at Y p + size_at Z p ≤ size_at X p
unfolding size_at mask_size one_if_open
order_sizes X Y Z p xy xz o b a ya zb =
    rw (o, b, a, ya, zb, xy p.0 p.1 p.2 Overlap o, xz p.0 p.1 p.2 Overlap o)
    (let c = open_most (Y p.0 p.1 p.2 Before) in let d = open_most (Z p.0 p.1 p.2 After) in omega (arith, c, d))

apart_sizes : (X Y Z : Exclusions) (p : Edge) → IsSubset X Y → X p.0 p.1 p.2 Overlap ≡ false
    → (X p.0 p.1 p.2 Before ≡ false) ⊎ (X p.0 p.1 p.2 After ≡ false) → Y p.0 p.1 p.2 Overlap ≡ true
    → Z p.0 p.1 p.2 Before ≡ true → Z p.0 p.1 p.2 After ≡ true → size_at Y p + size_at Z p ≤ size_at X p
unfolding size_at mask_size one_if_open
apart_sizes X Y Z p xy o (inl b) yo zb za =
    rw (o, b, yo, zb, za)
    (let c = open_most (Z p.0 p.1 p.2 Overlap) in let d = open_most (Y p.0 p.1 p.2 Before) in
    let e = open_less (X p.0 p.1 p.2 After) (Y p.0 p.1 p.2 After) (xy p.0 p.1 p.2 After) in omega (arith, c, d, e))
apart_sizes X Y Z p xy o (inr a) yo zb za =
    rw (o, a, yo, zb, za)
    (let c = open_most (Z p.0 p.1 p.2 Overlap) in let d = open_most (Y p.0 p.1 p.2 After) in
    let e = open_less (X p.0 p.1 p.2 Before) (Y p.0 p.1 p.2 Before) (xy p.0 p.1 p.2 Before) in omega (arith, c, d, e))

pub count_two : (a b : Verdict)
    → count_of (elim a [
      | Yes ns c ↦ Yes ns c
      | No ts c ↦
          join (No ts c) (elim b [ Yes ns d ↦ Yes ns d | No us d ↦ join (No us d) no_tokens ])
    ])
    ≤ count_of a + count_of b
count_two (Yes ns c) b = omega arith
count_two (No ts c) (Yes ns d) = omega arith
count_two (No ts c) (No us d) = omega arith

module _ (instance : PlainInstance) where
  abbrev closed : List Exclusion → Exclusions
  closed es = excludes (closure instance es)

  measure : List Exclusion → ℕ
  measure es = product (size_at (closed es)) (all_edges (dims instance) (box_count instance))

  measure_some : (es : List Exclusion) → 1 ≤ measure es
  unfolding measure
  measure_some es = product_some (size_at (closed es)) (all_edges (dims instance) (box_count instance))
      (size_some (closed es))

  in_edges : (i u v : ℕ) → i < dims instance → u < v → v < box_count instance
      → IsIn (i, u, v) (all_edges (dims instance) (box_count instance))
  in_edges i u v hi huv hv =
      in_flat_map (λ j. flat_map (λ y. pair_edges j y) (below (box_count instance))) i (i, u, v) (below (dims instance))
      (in_range 0 (dims instance) i (omega arith) (omega arith))
      (in_flat_map (λ y. pair_edges i y) v (i, u, v) (below (box_count instance))
      (in_range 0 (box_count instance) v (omega arith) (omega arith))
      (in_map (λ x. (i, x, v)) u (below v) (in_range 0 v u (omega arith) (omega arith))))

  -- a child excludes what its parent's closure does, and what it adds
  child_more : (add es : List Exclusion)
      → ((i u v : ℕ) (r : Rel) → IsTrue (closed es i u v r) → IsTrue (excludes (add ++ closure instance es) i u v r))
      → IsSubset (closed es) (closed (add ++ closure instance es))
  child_more add es h i u v r k = closure_keeps instance (add ++ closure instance es) i u v r (h i u v r k)

  one_more : (e : Exclusion) (es : List Exclusion) → IsSubset (closed es) (closed (e ∷ closure instance es))
  one_more e es = child_more (e ∷ []) es (λ i u v r k. or_true _ _ (inr k))

  two_more : (e f : Exclusion) (es : List Exclusion) → IsSubset (closed es) (closed (e ∷ f ∷ closure instance es))
  two_more e f es = child_more (e ∷ f ∷ []) es (λ i u v r k. or_true _ _ (inr (or_true _ _ (inr k))))

  own_closed : (fs : List Exclusion) (e : Exclusion) → IsIn e fs → closed fs e.dim e.u e.v e.rel ≡ true
  own_closed fs e i = closure_keeps instance fs e.dim e.u e.v e.rel (excludes_own e fs i)

  -- a split whose children's measures are together in its own
  split_count : (t : PlainToken) (a b : Verdict) (m k l : ℕ) → suc (count_of a) ≤ k → suc (count_of b) ≤ l → k + l ≤ m
      → suc (count_of (join (No (t ∷ []) 1)
      (elim a [
        | Yes ns c ↦ Yes ns c
        | No ts c ↦
            join (No ts c) (elim b [ Yes ns d ↦ Yes ns d | No us d ↦ join (No us d) no_tokens ])
      ]))) ≤ m
  split_count t a b m k l ha hb h =
      let two = count_two a b in
      let one = count_join_no (t ∷ []) 1
      (elim a [
        | Yes ns c ↦ Yes ns c
        | No ts c ↦
            join (No ts c) (elim b [ Yes ns d ↦ Yes ns d | No us d ↦ join (No us d) no_tokens ])
      ]) in
      omega (arith, two, one, ha, hb, h)

  module _ (some_dim : 1 ≤ dims instance) where
    chosen_count : (es : List Exclusion) (p : ℕ × ℕ) (tree : List Exclusion → SearchTree) → p.0 < p.1
        → p.1 < box_count instance
        → has_empty_mask (closed es) (dims instance) (box_count instance) ≡ false
        → is_settled (closed es) (dims instance) p ≡ false
        → ((fs : List Exclusion) → suc (count_of (outcome (tree fs))) ≤ measure fs)
        → (b : Bool) (i j : Option ℕ) → is_apart_somewhere (closed es) (dims instance) p ≡ b
        → find (has_order_mask (closed es) p) (below (dims instance)) ≡ i
        → find (has_apart_mask (closed es) p) (below (dims instance)) ≡ j
        → suc (count_of (outcome (split_tree (chosen_split p b i j) (λ add. tree (add ++ closure instance es)))))
        ≤ measure es
    unfolding measure
    chosen_count es p tree huv hv calm open_pair counts true (Some i) j e f g =
        let h = find_some (has_order_mask (closed es) p) (below (dims instance)) i f in
        let r = range_in 0 (dims instance) i h.0 in
        let hi : i < dims instance = omega (arith, r) in
        let q = and_parts _ _ h.1 in
        let q' = and_parts _ _ q.0 in
        let k : List Exclusion = exclusion_at_pair i p After ∷ closure instance es in
        let l : List Exclusion = exclusion_at_pair i p Before ∷ closure instance es in
        split_count _ (outcome (tree (exclusion_at_pair i p After ∷ closure instance es)))
        (outcome (tree (exclusion_at_pair i p Before ∷ closure instance es)))
        (product (size_at (closed es)) (all_edges (dims instance) (box_count instance)))
        (product (size_at (closed (exclusion_at_pair i p After ∷ closure instance es)))
        (all_edges (dims instance) (box_count instance)))
        (product (size_at (closed (exclusion_at_pair i p Before ∷ closure instance es)))
        (all_edges (dims instance) (box_count instance)))
        (counts (exclusion_at_pair i p After ∷ closure instance es))
        (counts (exclusion_at_pair i p Before ∷ closure instance es))
        (product_split (size_at (closed es)) (size_at (closed (exclusion_at_pair i p After ∷ closure instance es)))
        (size_at (closed (exclusion_at_pair i p Before ∷ closure instance es))) (i, p.0, p.1)
        (all_edges (dims instance) (box_count instance))
        (in_edges i p.0 p.1 hi huv hv)
        (size_less (closed es) (closed (exclusion_at_pair i p After ∷ closure instance es))
        (one_more (exclusion_at_pair i p After) es))
        (size_less (closed es) (closed (exclusion_at_pair i p Before ∷ closure instance es))
        (one_more (exclusion_at_pair i p Before) es))
        (order_sizes (closed es) (closed (exclusion_at_pair i p After ∷ closure instance es))
        (closed (exclusion_at_pair i p Before ∷ closure instance es)) (i, p.0, p.1)
        (one_more (exclusion_at_pair i p After) es) (one_more (exclusion_at_pair i p Before) es) q'.0 (not-true _ q'.1)
        (not-true _ q.1)
        (own_closed (exclusion_at_pair i p After ∷ closure instance es) (exclusion_at_pair i p After) (inl refl))
        (own_closed (exclusion_at_pair i p Before ∷ closure instance es) (exclusion_at_pair i p Before) (inl refl))))
    chosen_count es p tree huv hv calm open_pair counts true None j e f g =
        absurd (order_there instance es p huv hv calm open_pair e f)
    chosen_count es p tree huv hv calm open_pair counts false i (Some j) e f g =
        let h = find_some (has_apart_mask (closed es) p) (below (dims instance)) j g in
        let r = range_in 0 (dims instance) j h.0 in
        let hj : j < dims instance = omega (arith, r) in
        let q = and_parts _ _ h.1 in
        split_count _ (outcome (tree (exclusion_at_pair j p Overlap ∷ closure instance es)))
        (outcome (tree (exclusion_at_pair j p Before ∷ exclusion_at_pair j p After ∷ closure instance es)))
        (product (size_at (closed es)) (all_edges (dims instance) (box_count instance)))
        (product (size_at (closed (exclusion_at_pair j p Overlap ∷ closure instance es)))
        (all_edges (dims instance) (box_count instance)))
        (product (size_at (closed (exclusion_at_pair j p Before ∷ exclusion_at_pair j p After ∷ closure instance es)))
        (all_edges (dims instance) (box_count instance)))
        (counts (exclusion_at_pair j p Overlap ∷ closure instance es))
        (counts (exclusion_at_pair j p Before ∷ exclusion_at_pair j p After ∷ closure instance es))
        (product_split (size_at (closed es)) (size_at (closed (exclusion_at_pair j p Overlap ∷ closure instance es)))
        (size_at (closed (exclusion_at_pair j p Before ∷ exclusion_at_pair j p After ∷ closure instance es)))
        (j, p.0, p.1) (all_edges (dims instance) (box_count instance))
        (in_edges j p.0 p.1 hj huv hv)
        (size_less (closed es) (closed (exclusion_at_pair j p Overlap ∷ closure instance es))
        (one_more (exclusion_at_pair j p Overlap) es))
        (size_less (closed es) (closed
        (exclusion_at_pair j p Before ∷ exclusion_at_pair j p After ∷ closure instance es))
        (two_more (exclusion_at_pair j p Before) (exclusion_at_pair j p After) es))
        (apart_sizes (closed es) (closed (exclusion_at_pair j p Overlap ∷ closure instance es))
        (closed (exclusion_at_pair j p Before ∷ exclusion_at_pair j p After ∷ closure instance es)) (j, p.0, p.1)
        (one_more (exclusion_at_pair j p Overlap) es) (not-true _ q.0) (one_side (or_cases _ _ q.1))
        (own_closed (exclusion_at_pair j p Overlap ∷ closure instance es) (exclusion_at_pair j p Overlap) (inl refl))
        (own_closed (exclusion_at_pair j p Before ∷ exclusion_at_pair j p After ∷ closure instance es)
        (exclusion_at_pair j p Before) (inl refl))
        (own_closed (exclusion_at_pair j p Before ∷ exclusion_at_pair j p After ∷ closure instance es)
        (exclusion_at_pair j p After) (inr (inl refl)))))
      where
        one_side : (not (closed es j p.0 p.1 Before) ≡ true) ⊎ (not (closed es j p.0 p.1 After) ≡ true)
            → (closed es j p.0 p.1 Before ≡ false) ⊎ (closed es j p.0 p.1 After ≡ false)
        one_side (inl k) = inl (not-true _ k)
        one_side (inr k) = inr (not-true _ k)
    chosen_count es p tree huv hv calm open_pair counts false i None e f g =
        absurd (apart_there instance some_dim es p huv hv e g)

    node_count : (depth : ℕ) (es : List Exclusion) → suc (count_of (outcome (node_tree instance depth es))) ≤ measure es
    node_count zero es = measure_some es
    node_count (suc depth) es =
        go (has_empty_mask (closed es) (dims instance) (box_count instance)) refl
        (find (is_unsettled instance (closed es)) (ranked_pairs instance)) refl
        (λ fs. node_count depth fs)
      where
        go : (b : Bool) → has_empty_mask (closed es) (dims instance) (box_count instance) ≡ b
            → (o : Option (ℕ × ℕ)) → find (is_unsettled instance (closed es)) (ranked_pairs instance) ≡ o
            → ((fs : List Exclusion) → suc (count_of (outcome (node_tree instance depth fs))) ≤ measure fs)
            → suc (count_of (outcome (node_of instance (closed es) b o
            (λ add. node_tree instance depth (add ++ closure instance es))))) ≤ measure es
        go true e o f rest = measure_some es
        go false e None f rest = measure_some es
        go false e (Some p) f rest =
            let h = find_some (is_unsettled instance (closed es)) (ranked_pairs instance) p f in
            let k = ranked_rise instance p h.0 in
            chosen_count es p (λ fs. node_tree instance depth fs) k.0 k.1 e (not-true _ h.1) rest _ _ _ refl refl refl

  -- the measure is at most 3 to the number of edges
  product_power : {X : Type 0} (f : X → ℕ) (xs : List X) → ((x : X) → f x ≤ 3) → product f xs ≤ 3 ^ length xs
  unfolding product
  product_power f [] h = omega arith
  product_power f (x ∷ xs) h =
      let m : f x * product f xs ≤ 3 * 3 ^ length xs =
      times_le (f x) (product f xs) 3 (3 ^ length xs) (h x) (product_power f xs h) in
      subst (λ (y : ℕ). f x * product f xs ≤ y) (sym (pow-succ' 3 (length xs))) m

  triangle : (i a m : ℕ) → 2 * length (flat_map (λ v. pair_edges i v) (range_with_len a m)) + m ≡ m * m + 2 * a * m
  triangle i a zero = omega arith
  triangle i a (suc m) =
      let rest = triangle i (a + 1) m in
      let row : length (pair_edges i a) ≡ a = length-map (below a) (λ u. (i, u, a)) ∙ length-range_with_len 0 a in
      let both = length-append (pair_edges i a) (flat_map (λ v. pair_edges i v) (range_with_len (a + 1) m)) in
      omega (arith, rest, row, both)

  few_edges : (d n : ℕ) → length (all_edges d n) ≤ d * n * (n - 1) / 2
  few_edges d n =
      let row = λ (i : ℕ). flat_map (λ v. pair_edges i v) (below n) in
      let same : (i : ℕ) → length (row i) ≡ length (row 0) = λ i. omega (arith, triangle i 0 n, triangle 0 0 n) in
      let whole : length (all_edges d n) ≡ length (below d) * length (row 0) =
      length_parts row (length (row 0)) same (below d) in
      let count : length (below d) * length (row 0) ≡ d * length (row 0) =
      ap (λ x. x * length (row 0)) (length-range_with_len 0 d) in
      let few : d * length (row 0) ≤ d * n * (n - 1) / 2 = half d n (length (row 0)) (triangle 0 0 n) in
      omega (arith, whole, count, few)
    where
      half : (d n t : ℕ) → 2 * t + n ≡ n * n + 2 * 0 * n → d * t ≤ d * n * (n - 1) / 2
      half d zero t h =
          let z : t ≡ 0 = omega arith in
          let y : d * t ≡ 0 = (rw z (grind arith)) in
          omega (arith, y)
      half d (suc m) t h =
          let e : suc m - 1 ≡ m = omega arith in
          let a : d * (2 * t + suc m) ≡ 2 * (d * t) + d * suc m = grind arith in
          let b : d * (suc m * suc m + 2 * 0 * suc m) ≡ d * suc m * m + d * suc m = grind arith in
          let c : d * (2 * t + suc m) ≡ d * (suc m * suc m + 2 * 0 * suc m) = ap (λ x. d * x) h in
          rw e (omega (arith, a, b, c))

  measure_most : (es : List Exclusion)
      → measure es ≤ 3 ^ (dims instance * box_count instance * (box_count instance - 1) / 2)
  unfolding measure
  measure_most es =
      le_trans (product_power (size_at (closed es)) (all_edges (dims instance) (box_count instance))
      (size_most (closed es)))
      (pow-le-pow_right (omega arith) (few_edges (dims instance) (box_count instance)))

  pub class_count : 1 ≤ dims instance → (es : List Exclusion) (scales : Bool)
      → count_of (outcome (class_tree instance es scales)) < 3 ^
      (dims instance * box_count instance * (box_count instance - 1) / 2)
  class_count some_dim es scales =
      go (first_too_large_box instance) (has_closure_conflict instance es)
      (scales_after instance scales (has_closure_conflict instance es))
    where
      some : 1 ≤ 3 ^ (dims instance * box_count instance * (box_count instance - 1) / 2)
      some = le_trans (measure_some es) (measure_most es)

      go : (l : Option (ℕ × ℕ)) (b : Bool) (o : Option (List ScaleFn))
          → count_of (outcome (root_of l b o (tree_below instance es))) < 3 ^
          (dims instance * box_count instance * (box_count instance - 1) / 2)
      go (Some p) b o = some
      go None true o = some
      go None false (Some fs) = some
      go None false None = le_trans (node_count some_dim _ es) (measure_most es)
