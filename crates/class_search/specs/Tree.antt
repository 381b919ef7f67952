-- The class tree as its callers see it.
use Rattle.std.specs.Prelude.{ℕ, ◌≡◌, refl, List, Bool}
use Rattle.packing_terms.specs.declared.Exclusion.{Exclusion}
use Rattle.packing_terms.specs.Packing.{PlainInstance}
use Rattle.packing_terms.specs.Rank.{ranked_pairs}
use Rattle.packing_terms.specs.Exclusions.{AreAtEdges}
use Rattle.tree_terms.specs.ClassTree.{class_tree}
use Rattle.tree_terms.specs.Trees.{SearchTree}

-- the instance, what the root excludes, and the choice of scales
pub record PlainClassTree : Type 0 where
  pub instance : PlainInstance
  pub start : List Exclusion
  pub scales : Bool

-- the tree of the definition
abbrev pub shape : PlainClassTree → SearchTree
shape t = class_tree t.instance t.start t.scales

-- the same parts give the same tree
pub same_trees : (t u : PlainClassTree) → t ≡ u → shape t ≡ shape u
same_trees t u e = rw e refl

-- what a tree keeps: its exclusions are at pairs of the instance, and its pairs are in their order
pub record IsReady (t : PlainClassTree) (order : List (ℕ × ℕ)) : Type 0 where
  pub start : AreAtEdges t.instance t.start
  pub ranked : order ≡ ranked_pairs t.instance
