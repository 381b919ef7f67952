-- What is kept of the children of a node, by their paths.
use Rattle.std.proofs.Common.{◌≡◌, ℕ, refl, sym, ap, subst, ◌∙◌, List, [], ◌∷◌, ◌++◌, Option, Some, None, IfSome}
use Rattle.std.proofs.Common.{IsSome}
use Rattle.std.proofs.lemmas.Bool.{true≢false}
use Rattle.packing_terms.specs.Packing.{PlainInstance}
use Rattle.tree_terms.specs.Trees.{SearchTree, PlainOutcome, node_at, outcome, under_budget}
use Rattle.tree_terms.specs.Paths.{outcome_of}
use Rattle.tree_terms.proofs.Reached.{node_parts}
use Rattle.class_search.specs.declared.kept.Kept.{Kept}
use Rattle.class_search.specs.declared.kept.PausedWalk.{PausedWalk}
use Rattle.class_search.specs.declared.kept.WalkSplit.{WalkSplit}
use Rattle.class_search.specs.declared.kept.Explored.{Explored}
use Rattle.class_search.specs.Kept.{IsPausedWalk, standing_tree, IsWalkOf, IsKeptOf, HasChild, ArePartsOf, IsExplored}
use Rattle.class_search.specs.Kept.{IsKeptAt}
use Rattle.class_search.specs.Tree.{PlainClassTree, shape}

-- a child of the node at a path
pub child_piece : (t : PlainClassTree) (path : List ℕ) (k : ℕ) (kept : Kept) (P : SearchTree → Type 0)
    → ((node : SearchTree) → P node → HasChild node k (λ c. IsKeptOf t.instance c kept))
    → IsSome (node_at (Some (shape t)) path)
    → IfSome (node_at (Some (shape t)) path) P → IsKeptAt t (path ++ k ∷ []) kept
child_piece t path k kept P has there known = go (node_at (Some (shape t)) path) refl there known
  where
    go : (o : Option SearchTree) → node_at (Some (shape t)) path ≡ o → IsSome o → IfSome o P
        → IsKeptAt t (path ++ k ∷ []) kept
    go None e s p = absurd (true≢false (sym s))
    go (Some node) e s p =
        let h = has node p in
        record {
          node = h.child;
          there = node_parts (Some (shape t)) path (k ∷ [])
              ∙ (ap (λ (o : Option SearchTree). node_at o (k ∷ [])) e
              ∙ ap (λ (o : Option SearchTree). node_at o []) h.there);
          kept = h.kept;
        }

-- the walk that was left at a node
pub left_stands : (instance : PlainInstance) (o : Option SearchTree) (left : Option PausedWalk) (s : PausedWalk)
    → left ≡ Some s → IsSome o
    → IfSome o (λ node. IfSome left (IsWalkOf instance node)) → IsPausedWalk s
left_stands instance None left s is there known = absurd (true≢false (sym there))
left_stands instance (Some node) left s is there known =
    (subst (λ (l : Option PausedWalk). IfSome l (IsWalkOf instance node)) is known).stands

pub left_parts : (instance : PlainInstance) (o : Option SearchTree) (left : Option PausedWalk) (s : PausedWalk)
    (parts : WalkSplit) → left ≡ Some s
    → ArePartsOf s.instance.now (standing_tree s) parts → IfSome o (λ node. IfSome left (IsWalkOf instance node))
    → IfSome o (λ node. ArePartsOf instance node parts)
left_parts instance None left s parts is h known = tt
left_parts instance (Some node) left s parts is h known =
    let w = subst (λ (l : Option PausedWalk). IfSome l (IsWalkOf instance node)) is known in
    subst (λ (t : SearchTree). ArePartsOf instance t parts) w.is
    (subst (λ (i : PlainInstance). ArePartsOf i (standing_tree s) parts) w.here h)

-- what was explored of the node at a path
pub explored_at : (t : PlainClassTree) (path : List ℕ) (cap : ℕ) (kept : Kept) (e : Explored)
    → (h : IsKeptAt t path kept) → IsExplored t.instance h.node cap e
    → IfSome (node_at (Some (shape t)) path) (λ node. IsExplored t.instance node cap e)
explored_at t path cap kept e h x =
    subst (λ (o : Option SearchTree). IfSome o (λ node. IsExplored t.instance node cap e)) (sym h.there) x

pub explored_left : (instance : PlainInstance) (o : Option SearchTree) (cap : ℕ) (e : Explored)
    → IfSome o (λ node. IsExplored instance node cap e)
    → IfSome o (λ node. IfSome e.left (IsWalkOf instance node))
explored_left instance None cap e h = tt
explored_left instance (Some node) cap e h = h.left

pub explored_told : (instance : PlainInstance) (o : Option SearchTree) (cap : ℕ) (e : Explored) (r : PlainOutcome)
    → ((tree : SearchTree) → IsExplored instance tree cap e → r ≡ under_budget cap (outcome tree))
    → IfSome o (λ node. IsExplored instance node cap e) → IfSome (outcome_of o) (λ v. r ≡ under_budget cap v)
explored_told instance None cap e r f h = tt
explored_told instance (Some node) cap e r f h = f node h

-- what is reported of a walk's node is what is reported of the node at which the walk was left
pub left_node : {A : Type 0} (tell : SearchTree → A) (instance : PlainInstance) (o : Option SearchTree)
    (left : Option PausedWalk) (s : PausedWalk) (node : A) → left ≡ Some s → node ≡ tell (standing_tree s)
    → IfSome o (λ t. IfSome left (IsWalkOf instance t)) → IfSome o (λ t. node ≡ tell t)
left_node tell instance None left s node is h known = tt
left_node tell instance (Some t) left s node is h known =
    let w = subst (λ (l : Option PausedWalk). IfSome l (IsWalkOf instance t)) is known in
    h ∙ ap tell w.is
