-- The class tree is a search of its starting exclusions.
use Rattle.std.proofs.Common.{◌≡◌, ℕ, zero, suc, ◌+◌, ◌-◌, ◌*◌, ◌/◌, ◌<◌, ◌≤◌, ◌⊎◌, inl, inr, refl, sym, subst, ◌∙◌}
use Rattle.std.proofs.Common.{arith, Bool, true, false, not, ◌||◌, List, [], ◌∷◌, ◌++◌, map, nat_lt, get_or, Option}
use Rattle.std.proofs.Common.{Some, None}
use Rattle.std.specs.List.{find}
use Rattle.std.proofs.lemmas.Bool.{true≢false, and_parts, not-true, ltb-true, cases_lt, lt-ltb}
use Rattle.packing_terms.specs.declared.Rel.{Rel}
use Rattle.packing_terms.specs.declared.Rel.TheVariants.{Overlap, Before, After}
use Rattle.packing_terms.specs.declared.Exclusion.{Exclusion}
use Rattle.packing_terms.specs.declared.ScaleFn.{ScaleFn}
use Rattle.packing_terms.specs.Packing.{PlainInstance, HasPositiveSides, dims, box_count, container_side, side}
use Rattle.packing_terms.specs.Scales.{SidesFit, Exceeds}
use Rattle.packing_terms.specs.Exclusions.{excludes, IsEdge, AreAtEdges}
use Rattle.packing_terms.specs.Closure.{IsSubset, Derives}
use Rattle.packing_terms.specs.Tokens.PlainToken.{Apart as ApartToken, Order as OrderToken}
use Rattle.packing_terms.specs.Refutation.{by_rules, by_side, by_scales, LeavesOpen}
use Rattle.packing_terms.specs.Feeding.{children}
use Rattle.packing_terms.proofs.Sets.{or_true, excludes_symmetric}
use Rattle.packing_terms.proofs.Members.{IsIn, in_range, range_in, in_flat_map, in_map, flat_map_in, map_in}
use Rattle.packing_terms.proofs.Found.{find_some, find_none}
use Rattle.packing_terms.proofs.Listed.{first_exceeds, container_wide}
use Rattle.packing_terms.proofs.Closures.{derives_more}
use Rattle.packing_terms.specs.Rounds.{closure, has_empty_mask}
use Rattle.packing_terms.specs.Sums.{below}
use Rattle.packing_terms.proofs.RoundsLemmas.{closure_is, closure_stable, few_passing}
use Rattle.tree_terms.specs.Trees.{SearchTree, Settled}
use Rattle.packing_terms.specs.Rank.{ranked_pairs}
use Rattle.tree_terms.specs.InnerTree.{is_settled, is_unsettled, is_apart_somewhere, settled_places, exclusion_at_pair}
use Rattle.tree_terms.specs.InnerTree.{node_tree, node_of, has_order_mask, has_apart_mask, chosen_split, split_tree}
use Rattle.tree_terms.specs.InnerTree.{tree_below}
use Rattle.tree_terms.specs.ClassTree.{box_sides, first_too_large_box, exceeding_where, scales_after, root_of}
use Rattle.tree_terms.specs.ClassTree.{has_closure_conflict, class_tree}
use Rattle.tree_terms.specs.Search.{IsSearch}
use Rattle.packing_terms.proofs.RankLemmas.{ranked_rise, pair_ranked}
use Rattle.tree_terms.proofs.SettledPlaces.{settled_pack}
use Rattle.tree_terms.proofs.Nodes.{excluded_edge, closure_edges, opens, below_child, settled_pair}
use Rattle.packing_terms.proofs.Conflicts.{closed_back, closed_there, stays_open, calm, stormy, full_masks}
use Rattle.tree_terms.proofs.Splits.{order_there, apart_there}
use Rattle.tree_terms.proofs.Searches.{search_same}

pub one_open : (b a : Bool) → (not b || not a) ≡ true → (b ≡ false) ⊎ (a ≡ false)
one_open false a h = inl refl
one_open true false h = inr refl
one_open true true h = absurd (true≢false (sym h))

two_cases : (P : ℕ → Type 0) → P 0 → P 1 → (k : ℕ) → k < 2 → P k
two_cases P x y zero l = x
two_cases P x y (suc zero) l = y
two_cases P x y (suc (suc k)) l = absurd (omega (arith, l))

module _ (instance : PlainInstance) (sides : HasPositiveSides instance) (some_dim : 1 ≤ dims instance)
    (fit : SidesFit instance) where
  -- a split at an unsettled pair of a calm closure, where the trees of the children are searches
  module _ (es : List Exclusion) (p : ℕ × ℕ) (tree : List Exclusion → SearchTree) (huv : p.0 < p.1)
      (hv : p.1 < box_count instance)
      (no_conflict : has_empty_mask (excludes (closure instance es)) (dims instance) (box_count instance) ≡ false)
      (unsettled_pair : is_settled (excludes (closure instance es)) (dims instance) p ≡ false)
      (searches : (add : List Exclusion) (e : Exclusion) → IsIn e (add ++ closure instance es) → AreAtEdges instance add
      → IsSubset (excludes (closure instance es)) (excludes (add ++ closure instance es))
      → e.dim < dims instance → e.u < e.v → e.v < box_count instance
      → excludes (closure instance es) e.dim e.u e.v e.rel ≡ false
      → IsSearch instance (add ++ closure instance es) (tree (add ++ closure instance es))) where
    at_edge : (i : ℕ) → i < dims instance → IsEdge instance i p.0 p.1
    at_edge i h = record {
      dim = h;
      first = omega (arith, huv, hv);
      second = hv;
      distinct = (λ e. omega (arith, huv, e));
    }

    more_by : (e : Exclusion) → IsSubset (excludes (closure instance es)) (excludes (e ∷ closure instance es))
    more_by e j a b s k = or_true _ _ (inr k)

    -- a child of the list has the closure of that of its closure
    one_there : (e : Exclusion) → Derives instance (excludes (e ∷ closure instance es)) (excludes (e ∷ es))
    one_there e = derives_more instance e (closure instance es) es (closed_back instance es)

    one_back : (e : Exclusion) → Derives instance (excludes (e ∷ es)) (excludes (e ∷ closure instance es))
    one_back e = derives_more instance e es (closure instance es) (closed_there instance es)

    one_child : (i : ℕ) (r : Rel) → i < dims instance → excludes (closure instance es) i p.0 p.1 r ≡ false
        → IsSearch instance (exclusion_at_pair i p r ∷ es) (tree (exclusion_at_pair i p r ∷ closure instance es))
    one_child i r hi shut =
        let e : Exclusion = exclusion_at_pair i p r in
        search_same instance (tree (exclusion_at_pair i p r ∷ closure instance es))
        (exclusion_at_pair i p r ∷ closure instance es) (exclusion_at_pair i p r ∷ es) (one_there e) (one_back e)
        (searches (exclusion_at_pair i p r ∷ []) (exclusion_at_pair i p r) (inl refl) (at_edge i hi, tt)
        (more_by (exclusion_at_pair i p r)) hi huv hv shut)

    joined_child : (j : ℕ) → j < dims instance
        → (excludes (closure instance es) j p.0 p.1 Before ≡ false)
        ⊎ (excludes (closure instance es) j p.0 p.1 After ≡ false)
        → IsSearch instance (exclusion_at_pair j p Before ∷ exclusion_at_pair j p After ∷ closure instance es)
        (tree (exclusion_at_pair j p Before ∷ exclusion_at_pair j p After ∷ closure instance es))
    joined_child j hj (inl k) = searches (exclusion_at_pair j p Before ∷ exclusion_at_pair j p After ∷ [])
        (exclusion_at_pair j p Before) (inl refl) (at_edge j hj, (at_edge j hj, tt))
        (λ m a b s l. or_true _ _ (inr (or_true _ _ (inr l)))) hj huv hv k
    joined_child j hj (inr k) = searches (exclusion_at_pair j p Before ∷ exclusion_at_pair j p After ∷ [])
        (exclusion_at_pair j p After) (inr (inl refl)) (at_edge j hj, (at_edge j hj, tt))
        (λ m a b s l. or_true _ _ (inr (or_true _ _ (inr l)))) hj huv hv k

    two_added : (j : ℕ) → j < dims instance
        → (excludes (closure instance es) j p.0 p.1 Before ≡ false)
        ⊎ (excludes (closure instance es) j p.0 p.1 After ≡ false)
        → IsSearch instance (exclusion_at_pair j p Before ∷ exclusion_at_pair j p After ∷ es)
        (tree (exclusion_at_pair j p Before ∷ exclusion_at_pair j p After ∷ closure instance es))
    two_added j hj k =
        search_same instance (tree (exclusion_at_pair j p Before ∷ exclusion_at_pair j p After ∷ closure instance es))
        (exclusion_at_pair j p Before ∷ exclusion_at_pair j p After ∷ closure instance es)
        (exclusion_at_pair j p Before ∷ exclusion_at_pair j p After ∷ es)
        (derives_more instance (exclusion_at_pair j p Before) (exclusion_at_pair j p After ∷ closure instance es)
        (exclusion_at_pair j p After ∷ es) (one_there (exclusion_at_pair j p After)))
        (derives_more instance (exclusion_at_pair j p Before) (exclusion_at_pair j p After ∷ es)
        (exclusion_at_pair j p After ∷ closure instance es) (one_back (exclusion_at_pair j p After)))
        (joined_child j hj k)

    other : (j : ℕ) → (excludes (closure instance es) j p.0 p.1 Before ≡ false)
        ⊎ (excludes (closure instance es) j p.0 p.1 After ≡ false)
        → LeavesOpen instance es (exclusion_at_pair j p Before) ⊎ LeavesOpen instance es (exclusion_at_pair j p After)
    other j (inl k) = inl (stays_open instance es j p.0 p.1 Before k)
    other j (inr k) = inr (stays_open instance es j p.0 p.1 After k)

    split_search : (b : Bool) (i j : Option ℕ)
        → is_apart_somewhere (excludes (closure instance es)) (dims instance) p ≡ b
        → find (has_order_mask (excludes (closure instance es)) p) (below (dims instance)) ≡ i
        → find (has_apart_mask (excludes (closure instance es)) p) (below (dims instance)) ≡ j
        → IsSearch instance es (split_tree (chosen_split p b i j) (λ add. tree (add ++ closure instance es)))
    split_search true (Some i) j e f g =
        let h = find_some (has_order_mask (excludes (closure instance es)) p) (below (dims instance)) i f in
        let r = range_in 0 (dims instance) i h.0 in
        let hi : i < dims instance = omega (arith, r) in
        let q = and_parts _ _ h.1 in
        let q' = and_parts _ _ q.0 in
        let before : excludes (closure instance es) i p.0 p.1 Before ≡ false = not-true _ q'.1 in
        let after : excludes (closure instance es) i p.0 p.1 After ≡ false = not-true _ q.1 in (
          record {
            named = record {
              dim_from = omega arith;
              dim_to = omega arith;
              u_from = omega arith;
              rising = omega arith;
              v_to = omega arith;
            };
            no_conflict = calm instance es no_conflict;
            overlap = (closure_is instance es i p.0 p.1 Overlap).0 q'.0;
            before = stays_open instance es i p.0 p.1 Before before;
            after = stays_open instance es i p.0 p.1 After after;
          },
          refl,
          two_cases (λ k. IsSearch instance (get_or (children es (OrderToken (suc i) (suc p.0) (suc p.1))) k [])
              (elim k [
                | zero ↦ tree (exclusion_at_pair i p After ∷ closure instance es)
                | suc _ ↦
                    tree (exclusion_at_pair i p Before ∷ closure instance es)
              ]))
              (one_child i After hi after) (one_child i Before hi before),
        )
    split_search true None j e f g = absurd (order_there instance es p huv hv no_conflict unsettled_pair e f)
    split_search false i (Some j) e f g =
        let h = find_some (has_apart_mask (excludes (closure instance es)) p) (below (dims instance)) j g in
        let r = range_in 0 (dims instance) j h.0 in
        let hj : j < dims instance = omega (arith, r) in
        let q = and_parts _ _ h.1 in
        let overlap : excludes (closure instance es) j p.0 p.1 Overlap ≡ false = not-true _ q.0 in
        let open_side = one_open _ _ q.1 in (
          record {
            named = record {
              dim_from = omega arith;
              dim_to = omega arith;
              u_from = omega arith;
              rising = omega arith;
              v_to = omega arith;
            };
            no_conflict = calm instance es no_conflict;
            overlap = stays_open instance es j p.0 p.1 Overlap overlap;
            other = other j open_side;
          },
          refl,
          two_cases (λ k. IsSearch instance (get_or (children es (ApartToken (suc j) (suc p.0) (suc p.1))) k [])
              (elim k [
                | zero ↦ tree (exclusion_at_pair j p Overlap ∷ closure instance es)
                | suc _ ↦ tree (exclusion_at_pair j p Before ∷ exclusion_at_pair j p After ∷ closure instance es)
              ]))
              (one_child j Overlap hj overlap) (two_added j hj open_side),
        )
    split_search false i None e f g = absurd (apart_there instance some_dim es p huv hv e g)

  -- a node without an unsettled pair
  all_settled : (es : List Exclusion) → AreAtEdges instance es
      → has_empty_mask (excludes (closure instance es)) (dims instance) (box_count instance) ≡ false
      → find (is_unsettled instance (excludes (closure instance es))) (ranked_pairs instance) ≡ None
      → IsSearch instance es (Settled (settled_places instance (excludes (closure instance es))) 0)
  all_settled es placed f none =
      settled_pack instance (excludes (closure instance es)) (closure_stable instance es)
      (excludes_symmetric (closure instance es)) (full_masks instance es f) sides fit
      (λ i u v h. excluded_edge instance (closure instance es) (closure_edges instance es placed) i u v Overlap h)
      (λ u v l m. settled_pair (excludes (closure instance es)) (dims instance) (box_count instance)
      (excludes_symmetric (closure instance es)) (u, v)
      (is_true (is_settled (excludes (closure instance es)) (dims instance) (u, v))
      (find_none (is_unsettled instance (excludes (closure instance es))) (ranked_pairs instance) none (u, v)
      (pair_ranked instance u v l m))))
    where
      is_true : (b : Bool) → not b ≡ false → b ≡ true
      is_true true h = refl
      is_true false h = absurd (true≢false h)

  places_join : (add es : List Exclusion) → AreAtEdges instance add → AreAtEdges instance es
      → AreAtEdges instance (add ++ es)
  places_join [] es a b = b
  places_join (e ∷ add) es a b = (a.0, places_join add es a.1 b)

  -- a node is a search, where the depth is greater than the number of open relations
  node_search : (depth : ℕ) (es : List Exclusion) → AreAtEdges instance es
      → opens instance (closure instance es) < depth → IsSearch instance es (node_tree instance depth es)
  node_search zero es placed small = absurd (omega arith)
  node_search (suc depth) es placed small =
      go (has_empty_mask (excludes (closure instance es)) (dims instance) (box_count instance)) refl
      (find (is_unsettled instance (excludes (closure instance es))) (ranked_pairs instance)) refl
      (λ fs q l. node_search depth fs q l)
    where
      go : (b : Bool) → has_empty_mask (excludes (closure instance es)) (dims instance) (box_count instance) ≡ b
          → (o : Option (ℕ × ℕ)) → find (is_unsettled instance (excludes (closure instance es)))
          (ranked_pairs instance) ≡ o
          → ((fs : List Exclusion) → AreAtEdges instance fs → opens instance (closure instance fs) < depth
          → IsSearch instance fs (node_tree instance depth fs))
          → IsSearch instance es (node_of instance (excludes (closure instance es)) b o
          (λ add. node_tree instance depth (add ++ closure instance es)))
      go true e o f rest = by_rules (stormy instance es e)
      go false e None f rest = all_settled es placed e f
      go false e (Some p) f rest =
          let h = find_some (is_unsettled instance (excludes (closure instance es))) (ranked_pairs instance) p f in
          let k = ranked_rise instance p h.0 in
          split_search es p (λ fs. node_tree instance depth fs) k.0 k.1 e (not-true _ h.1)
          (λ add x i q more hi huv hv shut. rest (add ++ closure instance es)
          (places_join add (closure instance es) q (closure_edges instance es placed))
          (below_child instance es depth add x i more hi huv hv shut small))
          _ _ _ refl refl refl

  inner_search : (es : List Exclusion) → AreAtEdges instance es → IsSearch instance es (tree_below instance es)
  inner_search es placed =
      let few = few_passing instance (λ e. not (excludes (closure instance es) e.dim e.u e.v e.rel)) in
      node_search (3 * dims instance * box_count instance * (box_count instance - 1) / 2 + 1) es placed
      (omega (arith, few))

module _ (instance : PlainInstance) where
  -- the first large side is one, and where there is none the sides fit
  large_found : (p : ℕ × ℕ) → first_too_large_box instance ≡ Some p → (p.0 < box_count instance) × (p.1 < dims instance)
      × (container_side instance p.1 < side instance p.0 p.1)
  large_found p e =
      let h = find_some (λ q. nat_lt (container_side instance q.1) (side instance q.0 q.1)) (box_sides instance) p e in
      let a = flat_map_in (λ v. map (λ i. (v, i)) (below (dims instance))) p (below (box_count instance)) h.0 in
      let b = map_in (λ i. (a.0, i)) p (below (dims instance)) a.2 in
      let r = range_in 0 (box_count instance) a.0 a.1 in
      let s = range_in 0 (dims instance) b.0 b.1 in
      let there : (a.0 < box_count instance) × (b.0 < dims instance) = (omega (arith, r), omega (arith, s)) in
      let found = subst (λ (q : ℕ × ℕ). (q.0 < box_count instance) × (q.1 < dims instance)) (sym b.2) there in
      (found.0, found.1, ltb-true _ _ h.1)

  pub none_large : first_too_large_box instance ≡ None → SidesFit instance
  none_large e v i l m = go (cases_lt (container_side instance i) (side instance v i))
    where
      listed : IsIn (v, i) (box_sides instance)
      listed = in_flat_map (λ u. map (λ j. (u, j)) (below (dims instance))) v (v, i) (below (box_count instance))
          (in_range 0 (box_count instance) v (omega arith) (omega (arith, l)))
          (in_map (λ j. (v, j)) i (below (dims instance))
          (in_range 0 (dims instance) i (omega arith) (omega (arith, m))))

      go : (container_side instance i < side instance v i) ⊎ (side instance v i ≤ container_side instance i)
          → side instance v i ≤ container_side instance i
      go (inr k) = k
      go (inl k) = absurd (true≢false (sym (lt-ltb _ _ k)
          ∙ find_none (λ (q : ℕ × ℕ). nat_lt (container_side instance q.1) (side instance q.0 q.1)) (box_sides instance)
          e (v, i) listed))

module _ (instance : PlainInstance) (sides : HasPositiveSides instance) (some_dim : 1 ≤ dims instance)
    (some_box : 1 ≤ box_count instance) where
  -- a found tuple exceeds
  pub found_exceeds : (copies : ℕ) (scales : Bool) (fs : List ScaleFn) → SidesFit instance
      → exceeding_where instance copies scales None ≡ Some fs
      → Exceeds instance fs copies
  found_exceeds copies true fs fit e =
      first_exceeds instance (container_wide instance sides fit some_box) fit copies fs e
  found_exceeds copies false fs fit e = absurd (cc)

  pub class_search : (es : List Exclusion) → AreAtEdges instance es → (scales : Bool)
      → IsSearch instance es (class_tree instance es scales)
  class_search es placed scales =
      go (first_too_large_box instance) refl (has_closure_conflict instance es) refl
    where
      tested : (o : Option (List ScaleFn)) → SidesFit instance → exceeding_where instance 1 scales None ≡ o
          → IsSearch instance es (root_of None false o (tree_below instance es))
      tested (Some fs) fit e = by_scales (found_exceeds 1 scales fs fit e)
      tested None fit e = inner_search instance sides some_dim fit es placed

      go : (l : Option (ℕ × ℕ)) → first_too_large_box instance ≡ l → (b : Bool) → has_closure_conflict instance es ≡ b
          → IsSearch instance es (root_of l b (scales_after instance scales b) (tree_below instance es))
      go (Some p) e b f =
          let h = large_found instance p e in
          by_side (record {
            box_from = omega arith;
            box_to = omega (arith, h.0);
            dim_from = omega arith;
            dim_to = omega (arith, h.1);
            large = h.2;
          })
      go None e true f = by_rules (stormy instance es f)
      go None e false f = rw e (tested (exceeding_where instance 1 scales None) (none_large instance e) refl)
