-- One step into the inner tree, without a depth: a node is the test of its closure, or a split
-- whose children are the trees of the closure with what
-- they add. The depth of the definition is always enough, since a child has fewer open relations than its parent.
use Rattle.std.proofs.Common.{◌≡◌, ℕ, zero, suc, ◌<◌, ◌≤◌, ◌⊎◌, inl, inr, refl, ap, ap₂, subst, ◌∙◌, arith, Bool, true}
use Rattle.std.proofs.Common.{false, not, ◌||◌, List, [], ◌∷◌, ◌++◌, Option, Some, None}
use mathlib.Core.Path.{fun_ext}
use Rattle.std.specs.List.{find}
use Rattle.std.proofs.lemmas.Bool.{cases_Bool, and_parts, not-true}
use Rattle.packing_terms.specs.declared.Rel.{Rel}
use Rattle.packing_terms.specs.declared.Rel.TheVariants.{Overlap, Before, After}
use Rattle.packing_terms.specs.declared.Exclusion.{Exclusion}
use Rattle.packing_terms.specs.Packing.{PlainInstance, dims, box_count}
use Rattle.packing_terms.specs.Exclusions.{Exclusions, is_of, excludes}
use Rattle.packing_terms.specs.Closure.{IsSubset, HasConflict, Derives}
use Rattle.packing_terms.specs.Tokens.PlainToken.{Rules}
use Rattle.packing_terms.proofs.Sets.{or_true, same_bool}
use Rattle.packing_terms.proofs.Members.{range_in}
use Rattle.packing_terms.proofs.Found.{find_some}
use Rattle.packing_terms.specs.Rounds.{closure, has_empty_mask}
use Rattle.packing_terms.specs.Sums.{below}
use Rattle.packing_terms.proofs.RoundsLemmas.{few_passing}
use Rattle.tree_terms.specs.Trees.{SearchTree, Settled, Refuted, Split}
use Rattle.packing_terms.specs.Rank.{ranked_pairs}
use Rattle.tree_terms.specs.InnerTree.{SplitNode, is_settled, is_unsettled, is_apart_somewhere, settled_places}
use Rattle.tree_terms.specs.InnerTree.{exclusion_at_pair, node_tree, node_of, closed_node, has_order_mask}
use Rattle.tree_terms.specs.InnerTree.{has_apart_mask, chosen_split, split_at, split_tree, full_depth, tree_below}
use Rattle.packing_terms.proofs.RankLemmas.{ranked_rise}
use Rattle.tree_terms.proofs.Nodes.{opens, below_child}
use Rattle.packing_terms.proofs.Conflicts.{calm, stormy}
use Rattle.tree_terms.proofs.Splits.{order_there, apart_there}
use Rattle.tree_terms.proofs.Closed.{same_tree}
use Rattle.tree_terms.proofs.ClassSearch.{one_open}

-- sets of lists
pub same_sets : (es fs : List Exclusion) → IsSubset (excludes es) (excludes fs) → IsSubset (excludes fs) (excludes es)
    → excludes es ≡ excludes fs
same_sets es fs there back = fun_ext
    (λ i. fun_ext (λ u. fun_ext (λ v. fun_ext
    (λ r. same_bool (excludes es i u v r) (excludes fs i u v r) (there i u v r) (back i u v r)))))

pub more_sets : (add es fs : List Exclusion) → excludes es ≡ excludes fs → excludes (add ++ es) ≡ excludes (add ++ fs)
more_sets [] es fs e = e
more_sets (x ∷ add) es fs e = ap {B = Exclusions}
    (λ (X : Exclusions) (i u v : ℕ) (r : Rel). is_of x i u v r || X i u v r) (more_sets add es fs e)

-- a split depends on its two children
split_same : (s : SplitNode) (t u : List Exclusion → SearchTree) → t s.first ≡ u s.first → t s.second ≡ u s.second
    → split_tree s t ≡ split_tree s u
split_same s t u e f = ap (λ (c : ℕ → SearchTree). Split s.token 1 2 c) (fun_ext (λ k. go k))
  where
    go : (k : ℕ) → ◌≡◌ {A = SearchTree} (elim k [ zero ↦ t s.first | suc _ ↦ t s.second ])
        (elim k [ zero ↦ u s.first | suc _ ↦ u s.second ])
    go zero = e
    go (suc k) = f

module _ (instance : PlainInstance) where
  -- lists of one closure, and lists of one set, have one tree
  pub closure_tree : (es fs : List Exclusion) → Derives instance (excludes es) (excludes fs)
      → Derives instance (excludes fs) (excludes es)
      → tree_below instance es ≡ tree_below instance fs
  closure_tree es fs there back = same_tree instance (full_depth instance) es fs there back

  pub set_tree : (es fs : List Exclusion) → excludes es ≡ excludes fs → tree_below instance es ≡ tree_below instance fs
  set_tree es fs e = closure_tree es fs
      (subst (λ (X : Exclusions). Derives instance (excludes es) X) e (λ i u v r d. d))
      (subst (λ (X : Exclusions). Derives instance X (excludes es)) e (λ i u v r d. d))

  -- the test of the closure says whether there is a conflict
  pub conflict_test : (es : List Exclusion) → HasConflict instance (excludes es)
      → has_empty_mask (excludes (closure instance es)) (dims instance) (box_count instance) ≡ true
  conflict_test es c = go (cases_Bool
      (has_empty_mask (excludes (closure instance es)) (dims instance) (box_count instance)))
    where
      go : (has_empty_mask (excludes (closure instance es)) (dims instance) (box_count instance) ≡ true)
          ⊎ (has_empty_mask (excludes (closure instance es)) (dims instance) (box_count instance) ≡ false)
          → has_empty_mask (excludes (closure instance es)) (dims instance) (box_count instance) ≡ true
      go (inl k) = k
      go (inr k) = absurd (calm instance es k c)

  pub calm_test : (es : List Exclusion) → ¬ HasConflict instance (excludes es)
      → has_empty_mask (excludes (closure instance es)) (dims instance) (box_count instance) ≡ false
  calm_test es c = go (cases_Bool
      (has_empty_mask (excludes (closure instance es)) (dims instance) (box_count instance)))
    where
      go : (has_empty_mask (excludes (closure instance es)) (dims instance) (box_count instance) ≡ true)
          ⊎ (has_empty_mask (excludes (closure instance es)) (dims instance) (box_count instance) ≡ false)
          → has_empty_mask (excludes (closure instance es)) (dims instance) (box_count instance) ≡ false
      go (inl k) = absurd (c (stormy instance es k))
      go (inr k) = k

module _ (instance : PlainInstance) (some_dim : 1 ≤ dims instance) where
  -- both children of a split have fewer open relations
  module _ (es : List Exclusion) (p : ℕ × ℕ) (huv : p.0 < p.1) (hv : p.1 < box_count instance)
      (no_conflict : has_empty_mask (excludes (closure instance es)) (dims instance) (box_count instance) ≡ false)
      (unsettled_pair : is_settled (excludes (closure instance es)) (dims instance) p ≡ false) where
    abbrev IsFewer : List Exclusion → Type 0
    IsFewer add = (d : ℕ) → opens instance (closure instance es) < suc d
        → opens instance (closure instance (add ++ closure instance es)) < d

    one_fewer : (i : ℕ) (r : Rel) → i < dims instance → excludes (closure instance es) i p.0 p.1 r ≡ false
        → IsFewer (exclusion_at_pair i p r ∷ [])
    one_fewer i r hi shut d small =
        below_child instance es d (exclusion_at_pair i p r ∷ []) (exclusion_at_pair i p r) (inl refl)
        (λ j a b s k. or_true _ _ (inr k)) hi huv hv shut small

    two_fewer : (i : ℕ) → i < dims instance → (excludes (closure instance es) i p.0 p.1 Before ≡ false)
        ⊎ (excludes (closure instance es) i p.0 p.1 After ≡ false)
        → IsFewer (exclusion_at_pair i p Before ∷ exclusion_at_pair i p After ∷ [])
    two_fewer i hi (inl k) d small =
        below_child instance es d (exclusion_at_pair i p Before ∷ exclusion_at_pair i p After ∷ [])
        (exclusion_at_pair i p Before) (inl refl)
        (λ j a b s l. or_true _ _ (inr (or_true _ _ (inr l)))) hi huv hv k small
    two_fewer i hi (inr k) d small =
        below_child instance es d (exclusion_at_pair i p Before ∷ exclusion_at_pair i p After ∷ [])
        (exclusion_at_pair i p After) (inr (inl refl))
        (λ j a b s l. or_true _ _ (inr (or_true _ _ (inr l)))) hi huv hv k small

    chosen_fewer : (b : Bool) (i j : Option ℕ)
        → is_apart_somewhere (excludes (closure instance es)) (dims instance) p ≡ b
        → find (has_order_mask (excludes (closure instance es)) p) (below (dims instance)) ≡ i
        → find (has_apart_mask (excludes (closure instance es)) p) (below (dims instance)) ≡ j
        → IsFewer (chosen_split p b i j).first × IsFewer (chosen_split p b i j).second
    chosen_fewer true (Some i) j e f g =
        let h = find_some (has_order_mask (excludes (closure instance es)) p) (below (dims instance)) i f in
        let r = range_in 0 (dims instance) i h.0 in
        let hi : i < dims instance = omega (arith, r) in
        let q = and_parts _ _ h.1 in
        let q' = and_parts _ _ q.0 in
        (one_fewer i After hi (not-true _ q.1), one_fewer i Before hi (not-true _ q'.1))
    chosen_fewer true None j e f g = absurd (order_there instance es p huv hv no_conflict unsettled_pair e f)
    chosen_fewer false i (Some j) e f g =
        let h = find_some (has_apart_mask (excludes (closure instance es)) p) (below (dims instance)) j g in
        let r = range_in 0 (dims instance) j h.0 in
        let hj : j < dims instance = omega (arith, r) in
        let q = and_parts _ _ h.1 in
        (one_fewer j Overlap hj (not-true _ q.0), two_fewer j hj (one_open _ _ q.1))
    chosen_fewer false i None e f g = absurd (apart_there instance some_dim es p huv hv e g)

  -- the depth of a tree doesn't matter where it is greater than the number of open relations
  pub same_depth : (j k : ℕ) (es : List Exclusion) → opens instance (closure instance es) < j
      → opens instance (closure instance es) < k
      → node_tree instance j es ≡ node_tree instance k es
  same_depth zero k es l m = absurd (omega (arith, l))
  same_depth (suc j) zero es l m = absurd (omega (arith, m))
  same_depth (suc j) (suc k) es l m =
      go (has_empty_mask (excludes (closure instance es)) (dims instance) (box_count instance)) refl
      (find (is_unsettled instance (excludes (closure instance es))) (ranked_pairs instance)) refl
      (λ fs x y. same_depth j k fs x y)
    where
      go : (b : Bool) → has_empty_mask (excludes (closure instance es)) (dims instance) (box_count instance) ≡ b
          → (o : Option (ℕ × ℕ)) → find (is_unsettled instance (excludes (closure instance es)))
          (ranked_pairs instance) ≡ o
          → ((fs : List Exclusion) → opens instance (closure instance fs) < j → opens instance (closure instance fs) < k
          → node_tree instance j fs ≡ node_tree instance k fs)
          → node_of instance (excludes (closure instance es)) b o
          (λ add. node_tree instance j (add ++ closure instance es))
          ≡ node_of instance (excludes (closure instance es)) b o
          (λ add. node_tree instance k (add ++ closure instance es))
      go true e o f rest = refl
      go false e None f rest = refl
      go false e (Some p) f rest =
          let h = find_some (is_unsettled instance (excludes (closure instance es))) (ranked_pairs instance) p f in
          let r = ranked_rise instance p h.0 in
          let c = chosen_fewer es p r.0 r.1 e (not-true _ h.1) _ _ _ refl refl refl in
          split_same (split_at instance (excludes (closure instance es)) p)
          (λ add. node_tree instance j (add ++ closure instance es))
          (λ add. node_tree instance k (add ++ closure instance es))
          (rest ((split_at instance (excludes (closure instance es)) p).first ++ closure instance es)
          (c.0 j l) (c.0 k m))
          (rest ((split_at instance (excludes (closure instance es)) p).second ++ closure instance es)
          (c.1 j l) (c.1 k m))

  pub few_open : (es : List Exclusion) → opens instance (closure instance es) < full_depth instance
  few_open es = let f = few_passing instance (λ e. not (excludes (closure instance es) e.dim e.u e.v e.rel)) in
      omega (arith, f)

  -- the tree of a node, by those of its children
  pub tree_of_node : (es : List Exclusion) → tree_below instance es
      ≡ closed_node instance (excludes (closure instance es)) (λ add. tree_below instance (add ++ closure instance es))
  tree_of_node es = let f = few_open es in
      same_depth (full_depth instance) (suc (full_depth instance)) es f (omega (arith, f))

  -- and by the two tests of its closure
  by_tests : (es : List Exclusion) (b : Bool) (o : Option (ℕ × ℕ))
      → has_empty_mask (excludes (closure instance es)) (dims instance) (box_count instance) ≡ b
      → find (is_unsettled instance (excludes (closure instance es))) (ranked_pairs instance) ≡ o
      → tree_below instance es ≡ node_of instance (excludes (closure instance es)) b o
      (λ add. tree_below instance (add ++ closure instance es))
  by_tests es b o e f =
      tree_of_node es
      ∙ ap₂ (λ c q. node_of instance (excludes (closure instance es)) c q
      (λ add. tree_below instance (add ++ closure instance es))) e f

  pub conflict_node : (es : List Exclusion) → HasConflict instance (excludes es)
      → tree_below instance es ≡ Refuted (Rules ∷ []) 0
  conflict_node es c = by_tests es true _ (conflict_test instance es c) refl

  -- a list whose set is the closure of another, without conflict
  module _ (es fs : List Exclusion) (closed_set : excludes (closure instance es) ≡ excludes fs)
      (none : ¬ HasConflict instance (excludes es)) where
    no_conflict : has_empty_mask (excludes (closure instance es)) (dims instance) (box_count instance) ≡ false
    no_conflict = calm_test instance es none

    pub settled_node : find (is_unsettled instance (excludes fs)) (ranked_pairs instance) ≡ None
        → tree_below instance es ≡ Settled (settled_places instance (excludes fs)) 0
    settled_node f =
        by_tests es false None no_conflict
        (ap (λ X. find (is_unsettled instance X) (ranked_pairs instance)) closed_set ∙ f)
        ∙ ap (λ X. Settled (settled_places instance X) 0) closed_set

    pub split_node : (p : ℕ × ℕ) → find (is_unsettled instance (excludes fs)) (ranked_pairs instance) ≡ Some p
        → tree_below instance es ≡ split_tree (split_at instance (excludes fs) p)
        (λ add. tree_below instance (add ++ fs))
    split_node p f =
        by_tests es false (Some p) no_conflict
        (ap (λ X. find (is_unsettled instance X) (ranked_pairs instance)) closed_set ∙ f)
        ∙ (ap (λ (t : List Exclusion → SearchTree). split_tree (split_at instance (excludes (closure instance es)) p) t)
        (fun_ext (λ add. set_tree instance (add ++ closure instance es) (add ++ fs)
        (more_sets add (closure instance es) fs closed_set)))
        ∙ ap (λ X. split_tree (split_at instance X p) (λ add. tree_below instance (add ++ fs))) closed_set)

    -- an unsettled pair has a dimension to be split in
    pub order_found : (p : ℕ × ℕ) → p.0 < p.1 → p.1 < box_count instance
        → is_settled (excludes fs) (dims instance) p ≡ false
        → is_apart_somewhere (excludes fs) (dims instance) p ≡ true
        → find (has_order_mask (excludes fs) p) (below (dims instance)) ≡ None → ⊥
    order_found p huv hv u a f = order_there instance es p huv hv no_conflict
        (ap (λ X. is_settled X (dims instance) p) closed_set ∙ u)
        (ap (λ X. is_apart_somewhere X (dims instance) p) closed_set ∙ a)
        (ap (λ (X : Exclusions). find (has_order_mask X p) (below (dims instance))) closed_set ∙ f)

    pub apart_found : (p : ℕ × ℕ) → p.0 < p.1 → p.1 < box_count instance
        → is_apart_somewhere (excludes fs) (dims instance) p ≡ false
        → find (has_apart_mask (excludes fs) p) (below (dims instance)) ≡ None → ⊥
    apart_found p huv hv a f = apart_there instance some_dim es p huv hv
        (ap (λ X. is_apart_somewhere X (dims instance) p) closed_set ∙ a)
        (ap (λ (X : Exclusions). find (has_apart_mask X p) (below (dims instance))) closed_set ∙ f)
