-- The way down a path.
use Rattle.std.proofs.Common.{◌≡◌, ℕ, zero, suc, refl, sym, ap, ◌∙◌, arith, Bool, true, false, ltb, if◌then◌else◌, List}
use Rattle.std.proofs.Common.{◌∷◌, ◌++◌, Some, None, IsSome}
use Rattle.std.proofs.lemmas.Bool.{true≢false, ltb-true}
use Rattle.packing_terms.specs.declared.Exclusion.{Exclusion}
use Rattle.packing_terms.specs.Packing.{PlainInstance}
use Rattle.tree_terms.specs.Trees.{SearchTree, node_at}
use Rattle.tree_terms.specs.InnerTree.{SplitNode, split_tree, tree_below}
use Rattle.tree_terms.proofs.NodeSteps.{set_tree}
use Rattle.class_search.specs.declared.splits.Split.{Split}
use Rattle.class_search.specs.declared.visit.NodeKind.{NodeKind}
use Rattle.class_search.specs.declared.visit.NodeKind.TheVariants.{Divided}
use Rattle.class_search.specs.Splits.{plain_split, added, child_numbered, with_all}
use Rattle.class_search.specs.Visits.{kind_tree, IsMet}
use Rattle.class_search.proofs.Closings.{with_sets}

-- a split has two children
past_two : (s : SplitNode) (t : List Exclusion → SearchTree) (c : ℕ) (path : List ℕ)
    → IsSome (node_at (Some (split_tree s t)) (suc (suc c) ∷ path)) → ⊥
past_two s t c path h = go (ltb (suc (suc c)) 2) refl h
  where
    go : (b : Bool) → ltb (suc (suc c)) 2 ≡ b → IsSome (node_at (if b then Some (t s.second) else None) path) → ⊥
    go true e k = let l = ltb-true (suc (suc c)) 2 e in omega (arith, l)
    go false e k = true≢false (sym k)

module _ (instance : PlainInstance) (fs : List Exclusion) where
  child_is : (add gs : List Exclusion) (kind : NodeKind) → IsMet instance (with_all add fs) gs kind
      → tree_below instance (add ++ fs) ≡ kind_tree instance gs kind
  child_is add gs kind met = sym (set_tree instance (with_all add fs) (add ++ fs) (with_sets add fs)) ∙ met.tree

  pub path_next : (s : Split) (k c : ℕ) (path : List ℕ) (gs : List Exclusion) (kind : NodeKind)
      → IsMet instance (with_all (added s (child_numbered c)) fs) gs kind
      → IsSome (node_at (Some (kind_tree instance fs (Divided s k))) (c ∷ path))
      → node_at (Some (kind_tree instance fs (Divided s k))) (c ∷ path)
      ≡ node_at (Some (kind_tree instance gs kind)) path
  path_next s k zero path gs kind met h = ap (λ t. node_at (Some t) path) (child_is (plain_split s).first gs kind met)
  path_next s k (suc zero) path gs kind met h =
      ap (λ t. node_at (Some t) path) (child_is (plain_split s).second gs kind met)
  path_next s k (suc (suc c)) path gs kind met h =
      absurd (past_two (plain_split s) (λ add. tree_below instance (add ++ fs)) c path h)
