-- What is kept of the node at a path of a class tree.
use Rattle.std.specs.Prelude.{ℕ, ◌≡◌, List, Some, IfSome}
use Rattle.tree_terms.specs.Trees.{node_at}
use Rattle.tree_terms.specs.Paths.{node_view}
use Rattle.work_share.specs.declared.tree.Node.{Node}
use Rattle.work_share.specs.Nodes.{plain_node}
use Rattle.class_search.specs.declared.kept.Kept.{Kept}
use Rattle.class_search.specs.Tree.{PlainClassTree, shape}

pub record PlainPiece : Type 0 where
  pub tree : PlainClassTree
  pub path : List ℕ
  pub kept : Kept

-- the split of the node at a path
pub record PlainSplit : Type 0 where
  pub tree : PlainClassTree
  pub path : List ℕ
  pub node : Node

-- the node at a path of the tree, if there is one, is this
pub record IsSplitAt (tree : PlainClassTree) (path : List ℕ) (node : Node) : Type 0 where
  pub is : IfSome (node_at (Some (shape tree)) path) (λ t. plain_node node ≡ node_view t)
