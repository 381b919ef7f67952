-- The children of a root whose view is a split may be explored.
use Rattle.std.proofs.Common.{◌≡◌, ℕ, ◌<◌, refl, arith, [], ◌∷◌}
use Rattle.packing_terms.specs.Tokens.{PlainToken}
use Rattle.tree_terms.specs.Trees.{SearchTree}
use Rattle.tree_terms.specs.Paths.{Splits, node_view, IsReachable}
use Rattle.tree_terms.proofs.Reached.{root_reached, reached_next}

pub child_reached : (tree : SearchTree) (token : PlainToken) (own children : ℕ)
    → node_view tree ≡ Splits token own children → (k : ℕ) → k < children
    → IsReachable tree (k ∷ [])
child_reached tree token own children e k l = (reached_next tree [] k).1 (
  root_reached tree,
  record {
    node = tree;
    there = refl;
    token = token;
    own = own;
    children = children;
    told = e;
    child = omega (arith, l);
  },
)
