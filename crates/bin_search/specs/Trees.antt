-- The bin tree as its callers see it.
use Rattle.std.specs.Prelude.{ℕ, ◌≤◌, ◌≡◌, refl, List, Option, Some, Bool}
use Rattle.packing_terms.specs.declared.ScaleFn.{ScaleFn}
use Rattle.packing_terms.specs.Packing.{PlainInstance, box_count}
use Rattle.packing_terms.specs.Scales.{SidesFit}
use Rattle.packing_terms.specs.Tokens.PlainToken.{GlobalScales}
use Rattle.packing_terms.specs.Rank.{ranked}
use Rattle.tree_terms.specs.Trees.{SearchTree}
use Rattle.tree_terms.specs.OuterTrees.{bin_tree}
use Rattle.proof_tree.specs.declared.token.Token.{Token}
use Rattle.proof_tree.specs.Plain.{plain_token}

-- the instance, the number of bins, and the choice of scales
pub record PlainBinTree : Type 0 where
  pub instance : PlainInstance
  pub bins : ℕ
  pub scales : Bool

-- the tree of the definition
abbrev pub shape : PlainBinTree → SearchTree
shape t = bin_tree t.instance t.bins t.scales

-- the same parts give the same tree
pub same_trees : (t u : PlainBinTree) → t ≡ u → shape t ≡ shape u
same_trees t u e = rw e refl

-- what a tree keeps
pub record IsReady (t : PlainBinTree) (order : List ℕ) : Type 0 where
  pub in_order : order ≡ ranked t.instance
  pub fit : SidesFit t.instance
  pub few : t.bins ≤ box_count t.instance

-- the token has this tuple of scale functions
pub record IsExcess (found : Option (List ScaleFn)) (token : Token) : Type 0 where
  pub tuple : List ScaleFn
  pub is : plain_token token ≡ GlobalScales tuple
  pub first : found ≡ Some tuple
