-- Walks that are kept, and what they leave to the children of their node.
use Rattle.std.specs.Prelude.{ℕ, ◌≡◌, List, Some, IfSome}
use Rattle.packing_terms.specs.Packing.{PlainInstance, dims, box_count}
use Rattle.packing_terms.specs.Scales.{SidesFit}
use Rattle.work_share.specs.Outcomes.{plain_outcome}
use Rattle.tree_terms.specs.Trees.{SearchTree, No, outcome, under_budget, child_at, node_at}
use Rattle.tree_terms.specs.Paths.{node_view}
use Rattle.work_share.specs.Nodes.{plain_node}
use Rattle.class_search.specs.declared.kept.PausedWalk.{PausedWalk}
use Rattle.class_search.specs.declared.kept.Refuted.{Refuted as RefutedNode}
use Rattle.class_search.specs.declared.kept.Kept.{Kept}
use Rattle.class_search.specs.declared.kept.Kept.TheVariants.{Refuted as KeptRefuted, PausedWalk as KeptStanding}
use Rattle.class_search.specs.declared.kept.WalkSplit.{WalkSplit}
use Rattle.class_search.specs.declared.kept.WalkSplit.TheVariants.{First, Second}
use Rattle.class_search.specs.declared.kept.Division.{Division}
use Rattle.class_search.specs.declared.kept.Explored.{Explored}
use Rattle.class_search.specs.Walks.{walk_tree, IsWalk}
use Rattle.class_search.specs.Tree.{PlainClassTree, shape}

-- a walk with a state of its instance's sizes, in which no box is longer than the container
pub record IsPausedWalk (s : PausedWalk) : Type 0 where
  pub sizes_dims : s.state.dims ≡ dims s.instance.now
  pub sizes_boxes : s.state.boxes ≡ box_count s.instance.now
  pub room : s.closer ≡ record { dims = s.state.dims; boxes = s.state.boxes }
  pub fit : SidesFit s.instance.now
  pub walks : IsWalk s.instance.now s.state.trail s.walk

-- the tree that it walks
abbrev pub standing_tree : PausedWalk → SearchTree
standing_tree s = walk_tree s.instance.now s.state.trail s.walk

-- a walk of this instance through this tree
pub record IsWalkOf (instance : PlainInstance) (tree : SearchTree) (s : PausedWalk) : Type 0 where
  pub here : s.instance.now ≡ instance
  pub stands : IsPausedWalk s
  pub is : standing_tree s ≡ tree

-- all that the tree gives, which is no
abbrev pub IsAllOf : SearchTree → RefutedNode → Type 0
IsAllOf tree r = outcome tree ≡ No r.tokens r.count

-- what is kept of a tree is right
abbrev pub IsKeptOf : PlainInstance → SearchTree → Kept → Type 0
IsKeptOf instance tree (KeptRefuted r) = IsAllOf tree r
IsKeptOf instance tree (KeptStanding s) = IsWalkOf instance tree s

-- the tree has this child, of which this is kept
pub record HasChild (tree : SearchTree) (k : ℕ) (P : SearchTree → Type 0) : Type 0 where
  pub child : SearchTree
  pub there : child_at tree k ≡ Some child
  pub kept : P child

-- what is left to the children of a tree is right
abbrev pub ArePartsOf : PlainInstance → SearchTree → WalkSplit → Type 0
ArePartsOf instance tree (First s) = HasChild tree 0 (λ t. IsWalkOf instance t s)
ArePartsOf instance tree (Second r s) =
    HasChild tree 0 (λ t. IsAllOf t r) × HasChild tree 1 (λ t. IsWalkOf instance t s)

-- what is left of a tree is right: its split, and what is left to its children
pub record IsDivisionOf (instance : PlainInstance) (tree : SearchTree) (d : Division) : Type 0 where
  pub node : plain_node d.node ≡ node_view tree
  pub parts : ArePartsOf instance tree d.parts

-- the outcome under a cap, with a walk through the same tree, if one is left
pub record IsExplored (instance : PlainInstance) (tree : SearchTree) (cap : ℕ) (e : Explored) : Type 0 where
  pub told_so : plain_outcome e.outcome ≡ under_budget cap (outcome tree)
  pub left : IfSome e.left (IsWalkOf instance tree)

-- what is kept of the node at a path is right
pub record IsKeptAt (t : PlainClassTree) (path : List ℕ) (k : Kept) : Type 0 where
  pub node : SearchTree
  pub there : node_at (Some (shape t)) path ≡ Some node
  pub kept : IsKeptOf t.instance node k
