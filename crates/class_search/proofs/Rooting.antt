-- The root's own tests, and the way down a path.
use Rattle.std.proofs.Common.{◌≡◌, ◌≢◌, ℕ, zero, suc, ◌+◌, ◌<◌, ◌≤◌, ◌⊎◌, inl, inr, refl, sym, ap, ap₂, subst, ◌∙◌}
use Rattle.std.proofs.Common.{arith, Bool, true, false, cond, ◌==◌, length, List, [], ◌∷◌, ◌++◌, map, nat_lt}
use Rattle.std.proofs.Common.{append-nil, Option, Some, None, IsSome}
use Rattle.std.specs.List.{find, flat_map, range_with_len}
use Rattle.std.proofs.lemmas.Bool.{true≢false, cases_eq, eqb-true}
use Rattle.packing_terms.specs.declared.Exclusion.{Exclusion}
use Rattle.packing_terms.specs.declared.ScaleFn.{ScaleFn}
use Rattle.packing_terms.specs.Packing.{PlainInstance, dims, box_count, container_side, side}
use Rattle.packing_terms.specs.Exclusions.{Exclusions, excludes}
use Rattle.packing_terms.specs.Closure.{HasConflict, Derives}
use Rattle.packing_terms.specs.Scales.{SidesFit}
use Rattle.packing_terms.specs.Tokens.PlainToken.{Rules}
use Rattle.packing_terms.proofs.Found.{find_left, find_right}
use Rattle.packing_terms.specs.Rounds.{has_empty_mask}
use Rattle.packing_terms.specs.Sums.{below}
use Rattle.rule_closure.specs.Closes.{IsClosure}
use Rattle.tree_terms.specs.Trees.{SearchTree, Refuted, node_at}
use Rattle.tree_terms.specs.InnerTree.{tree_below}
use Rattle.tree_terms.specs.ClassTree.{first_too_large_box, exceeding_where, scales_after, root_of, has_closure_conflict}
use Rattle.tree_terms.specs.ClassTree.{class_tree}
use Rattle.tree_terms.proofs.Closed.{same_closure}
use Rattle.tree_terms.proofs.ClassSearch.{none_large}
use Rattle.proof_tree.specs.declared.token.Token.{Token}
use Rattle.proof_tree.specs.Plain.{plain_token}
use Rattle.class_search.specs.Rooted.{is_larger, IsExcessToken}
use Rattle.class_search.specs.Splits.{with_all}
use Rattle.class_search.specs.Tree.{PlainClassTree, shape}
use Rattle.tree_terms.proofs.NodeSteps.{set_tree, conflict_test, calm_test}
use Rattle.class_search.proofs.Closings.{with_sets}

find_mapped : {A B : Type 0} (t : B → Bool) (f : A → B) (xs : List A) (x : A) → find (λ a. t (f a)) xs ≡ Some x
    → find t (map f xs) ≡ Some (f x)
find_mapped t f [] x e = absurd (cc)
find_mapped t f (y ∷ xs) x e = go (t (f y)) e (find_mapped t f xs x)
  where
    go : (b : Bool) → cond b (Some y) (find (λ a. t (f a)) xs) ≡ Some x
        → (find (λ a. t (f a)) xs ≡ Some x → find t (map f xs) ≡ Some (f x))
        → cond b (Some (f y)) (find t (map f xs)) ≡ Some (f x)
    go true e rest = let s : y ≡ x = cc in ap (λ z. Some (f z)) s
    go false e rest = rest e

never_mapped : {A B : Type 0} (t : B → Bool) (f : A → B) (xs : List A) → find (λ a. t (f a)) xs ≡ None
    → find t (map f xs) ≡ None
never_mapped t f [] e = refl
never_mapped t f (y ∷ xs) e = go (t (f y)) e (never_mapped t f xs)
  where
    go : (b : Bool) → cond b (Some y) (find (λ a. t (f a)) xs) ≡ None
        → (find (λ a. t (f a)) xs ≡ None → find t (map f xs) ≡ None) → cond b (Some (f y)) (find t (map f xs)) ≡ None
    go true e rest = absurd (cc)
    go false e rest = rest e

module _ (instance : PlainInstance) where
  abbrev is_large : ℕ × ℕ → Bool
  is_large p = nat_lt (container_side instance p.1) (side instance p.0 p.1)

  abbrev sides_of : ℕ → List (ℕ × ℕ)
  sides_of v = map (λ i. (v, i)) (below (dims instance))

  abbrev none_of : ℕ → Type 0
  none_of v = find (is_larger instance v) (below (dims instance)) ≡ None

  sides_first : (a m v i : ℕ) → a ≤ v → v < a + m → ((u : ℕ) → a ≤ u → u < v → none_of u)
      → find (is_larger instance v) (below (dims instance)) ≡ Some i
      → find is_large (flat_map sides_of (range_with_len a m)) ≡ Some (v, i)
  sides_first a zero v i low high before e = absurd (omega (arith, low, high))
  sides_first a (suc m) v i low high before e =
      go (cases_eq a v) (λ s. sides_first (a + 1) m v i (omega (arith, low, s)) (omega (arith, high))
      (λ u x y. before u (omega (arith, x)) y) e)
    where
      go : (a ≡ v) ⊎ (a ≢ v) → (a ≢ v → find is_large (flat_map sides_of (range_with_len (a + 1) m)) ≡ Some (v, i))
          → find is_large (sides_of a ++ flat_map sides_of (range_with_len (a + 1) m)) ≡ Some (v, i)
      go (inl s) rest = rw s (find_left is_large (sides_of v) (flat_map sides_of (range_with_len (v + 1) m)) (v, i)
          (find_mapped is_large (λ j. (v, j)) (below (dims instance)) i e))
      go (inr s) rest = find_right is_large (sides_of a) (flat_map sides_of (range_with_len (a + 1) m))
          (never_mapped is_large (λ j. (a, j)) (below (dims instance)) (before a (omega arith) (omega (arith, low, s))))
          ∙ rest s

  sides_never : (a m : ℕ) → ((u : ℕ) → a ≤ u → u < a + m → none_of u)
      → find is_large (flat_map sides_of (range_with_len a m)) ≡ None
  sides_never a zero none = refl
  sides_never a (suc m) none = find_right is_large (sides_of a) (flat_map sides_of (range_with_len (a + 1) m))
      (never_mapped is_large (λ j. (a, j)) (below (dims instance)) (none a (omega arith) (omega arith)))
      ∙ sides_never (a + 1) m (λ u x y. none u (omega (arith, x)) (omega (arith, y)))

  pub large_first : (v i : ℕ) → v < box_count instance → ((u : ℕ) → u < v → none_of u)
      → find (is_larger instance v) (below (dims instance)) ≡ Some i
      → first_too_large_box instance ≡ Some (v, i)
  large_first v i l before e = sides_first 0 (box_count instance) v i (omega arith) (omega (arith, l))
      (λ u x y. before u y) e

  pub large_never : ((u : ℕ) → u < box_count instance → none_of u) → first_too_large_box instance ≡ None
  large_never none = sides_never 0 (box_count instance) (λ u x y. none u (omega (arith, y)))

  -- the class tree by the root's tests
  by_root : (es : List Exclusion) (scales : Bool) (l : Option (ℕ × ℕ)) (b : Bool) (o : Option (List ScaleFn))
      → first_too_large_box instance ≡ l → has_closure_conflict instance es ≡ b
      → scales_after instance scales b ≡ o → class_tree instance es scales ≡ root_of l b o (tree_below instance es)
  by_root es scales l b o e f g =
      ap₂ (λ x y. root_of x y (scales_after instance scales y) (tree_below instance es)) e f
      ∙ ap (λ z. root_of l b z (tree_below instance es)) g

  pub root_conflict : (es : List Exclusion) (scales : Bool) → first_too_large_box instance ≡ None
      → HasConflict instance (excludes es) → class_tree instance es scales ≡ Refuted (Rules ∷ []) 0
  root_conflict es scales e c = by_root es scales None true None e (conflict_test instance es c) refl

  scales_are : (scales : Bool) (o : Option (List ScaleFn)) → first_too_large_box instance ≡ None
      → exceeding_where instance 1 scales None ≡ o → scales_after instance scales false ≡ o
  scales_are scales o e h = ap (exceeding_where instance 1 scales) e ∙ h

  -- at a closed root: passed, or refuted by the scales
  pub root_passed : (es fs : List Exclusion) (scales : Bool) → first_too_large_box instance ≡ None
      → IsClosure instance es fs → exceeding_where instance 1 scales None ≡ None
      → class_tree instance es scales ≡ tree_below instance es
  root_passed es fs scales e closed h =
      by_root es scales None false None e (calm_test instance es closed.none) (scales_are scales None e h)

  pub root_refuted : (es fs : List Exclusion) (scales : Bool) (t : Token) → first_too_large_box instance ≡ None
      → IsClosure instance es fs → IsExcessToken instance scales t
      → class_tree instance es scales ≡ Refuted (plain_token t ∷ []) 0
  root_refuted es fs scales t e closed h =
      by_root es scales None false (Some h.tuple) e (calm_test instance es closed.none)
      (scales_are scales (Some h.tuple) e h.found)
      ∙ ap (λ x. Refuted (x ∷ []) 0) (sym h.is)

  -- lists of one set have one class tree
  pub class_set : (es fs : List Exclusion) (scales : Bool) → excludes es ≡ excludes fs
      → class_tree instance es scales ≡ class_tree instance fs scales
  class_set es fs scales e =
      ap₂ (λ b t. root_of (first_too_large_box instance) b (scales_after instance scales b) t)
      (ap (λ X. has_empty_mask X (dims instance) (box_count instance)) (same_closure instance es fs
      (subst (λ (X : Exclusions). Derives instance (excludes es) X) e (λ i u v r d. d))
      (subst (λ (X : Exclusions). Derives instance X (excludes es)) e (λ i u v r d. d))))
      (set_tree instance es fs e)

  pub class_start : (start : List Exclusion) (scales : Bool)
      → class_tree instance (with_all start []) scales ≡ class_tree instance start scales
  class_start start scales = class_set (with_all start []) start scales
      (with_sets start [] ∙ ap excludes (append-nil start))

  -- below a root there is only the inner tree
  root_split : (l : Option (ℕ × ℕ)) (b : Bool) (o : Option (List ScaleFn)) (t : SearchTree) (k : ℕ) (path : List ℕ)
      → IsSome (node_at (Some (root_of l b o t)) (k ∷ path))
      → (l ≡ None) × (root_of l b o t ≡ t)
  root_split (Some p) b o t k path h = absurd (true≢false (sym h))
  root_split None true o t k path h = absurd (true≢false (sym h))
  root_split None false (Some fs) t k path h = absurd (true≢false (sym h))
  root_split None false None t k path h = (refl, refl)

  pub below_root : (es : List Exclusion) (scales : Bool) (k : ℕ) (path : List ℕ)
      → IsSome (node_at (Some (class_tree instance es scales)) (k ∷ path))
      → (first_too_large_box instance ≡ None) × (class_tree instance es scales ≡ tree_below instance es)
  below_root es scales k path h = root_split (first_too_large_box instance) _ _ (tree_below instance es) k path h

  pub on_path : (start : List Exclusion) (scales : Bool) (k : ℕ) (path : List ℕ)
      → IsSome (node_at (Some (class_tree instance start scales)) (k ∷ path))
      → SidesFit instance × (class_tree instance start scales ≡ tree_below instance (with_all start []))
  on_path start scales k path h =
      let b = below_root start scales k path h in (
        none_large instance b.0,
        b.1 ∙ sym
            (set_tree instance (with_all start []) start (with_sets start [] ∙ ap excludes (append-nil start))),
      )

-- what a path comes to
pub root_arrival : (t : PlainClassTree) (es : List Exclusion) (path : List ℕ) (x : SearchTree)
    → es ≡ with_all t.start [] → (length path == 0) ≡ true
    → class_tree t.instance es t.scales ≡ x → node_at (Some (shape t)) path ≡ Some x
root_arrival t es [] x s e h =
    ap Some (sym (class_start t.instance t.start t.scales) ∙ (ap (λ fs. class_tree t.instance fs t.scales) (sym s) ∙ h))
root_arrival t es (k ∷ path) x s e h = absurd (let z = eqb-true (length (k ∷ path)) 0 e in omega (arith, z))

pub path_arrival : (t : PlainClassTree) (es : List Exclusion) (path : List ℕ) → es ≡ with_all t.start []
    → (length path == 0) ≡ false
    → IsSome (node_at (Some (shape t)) path) → SidesFit t.instance × (shape t ≡ tree_below t.instance es)
path_arrival t es [] s e h = absurd (true≢false e)
path_arrival t es (k ∷ path) s e h =
    let p = on_path t.instance t.start t.scales k path h in
    (p.0, p.1 ∙ ap (λ fs. tree_below t.instance fs) (sym s))
