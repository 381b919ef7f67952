-- The root's own tests, and what a path comes to.
use Rattle.std.specs.Prelude.{ℕ, ◌≡◌, List, [], ◌∷◌, Option, Some, None, Bool, nat_lt}
use Rattle.packing_terms.specs.declared.Exclusion.{Exclusion}
use Rattle.packing_terms.specs.declared.ScaleFn.{ScaleFn}
use Rattle.packing_terms.specs.Packing.{PlainInstance, container_side, side}
use Rattle.packing_terms.specs.Scales.{SidesFit}
use Rattle.packing_terms.specs.Tokens.PlainToken.{Rules, Scales}
use Rattle.packing_terms.specs.Applied.{Extends}
use Rattle.rule_closure.specs.Closes.{IsClosure}
use Rattle.tree_terms.specs.Trees.{SearchTree, Refuted}
use Rattle.tree_terms.specs.InnerTree.{tree_below}
use Rattle.tree_terms.specs.ClassTree.{class_tree, exceeding_where}
use Rattle.proof_tree.specs.declared.token.Token.{Token}
use Rattle.proof_tree.specs.Plain.{plain_token}
use Rattle.class_search.specs.declared.root.Arrival.{Arrival}
use Rattle.class_search.specs.declared.root.Arrival.TheVariants.{RefutedRoot, Inner}
use Rattle.class_search.specs.declared.root.RootTest.{RootTest}
use Rattle.class_search.specs.declared.root.RootTest.TheVariants.{Refuted as TestRefuted, Conflict, Passed}
use Rattle.class_search.specs.declared.visit.NodeKind.{NodeKind}
use Rattle.class_search.specs.Visits.{kind_tree, IsKind}

-- whether the box is longer than the container
abbrev pub is_larger : PlainInstance → ℕ → ℕ → Bool
is_larger instance v i = nat_lt (container_side instance i) (side instance v i)

-- the token has the first tuple that exceeds, where scales are wanted
pub record IsExcessToken (instance : PlainInstance) (scales : Bool) (token : Token) : Type 0 where
  pub tuple : List ScaleFn
  pub is : plain_token token ≡ Scales tuple
  pub found : exceeding_where instance 1 scales None ≡ Some tuple

-- the node is an inner tree of this kind, in which no box is longer than the container
pub record IsInner (instance : PlainInstance) (node : Option SearchTree) (es : List Exclusion) (kind : NodeKind) :
    Type 0 where
  pub is : node ≡ Some (kind_tree instance es kind)
  pub known : IsKind instance es kind
  pub fit : SidesFit instance

-- the root passed its tests: its state is closed, and its tree is the inner one
pub record HasPassed (instance : PlainInstance) (scales : Bool) (es fs : List Exclusion) : Type 0 where
  pub is : class_tree instance es scales ≡ tree_below instance es
  pub fit : SidesFit instance
  pub extends : Extends instance es fs
  pub closed : IsClosure instance es fs

-- what the tests show of a root that has the exclusions `es`, and whose state now has `fs`
abbrev pub IsTested : PlainInstance → Bool → List Exclusion → List Exclusion → RootTest → Type 0
IsTested instance scales es fs (TestRefuted token) =
    class_tree instance es scales ≡ Refuted (plain_token token ∷ []) 0
IsTested instance scales es fs Conflict = (class_tree instance es scales ≡ Refuted (Rules ∷ []) 0) × SidesFit instance
IsTested instance scales es fs Passed = HasPassed instance scales es fs

-- what is at the end of a path: a root that is refuted by its own tests, or a node of the inner
-- tree, whose closed state has these exclusions
abbrev pub IsArrival : PlainInstance → Option SearchTree → List Exclusion → Arrival → Type 0
IsArrival instance node es (RefutedRoot token) = node ≡ Some (Refuted (plain_token token ∷ []) 0)
IsArrival instance node es (Inner kind) = IsInner instance node es kind

-- the tree of the node that a path came to
abbrev pub arrival_tree : PlainInstance → List Exclusion → Arrival → SearchTree
arrival_tree instance es (RefutedRoot token) = Refuted (plain_token token ∷ []) 0
arrival_tree instance es (Inner kind) = kind_tree instance es kind

-- what is known of it, where no test of the root refutes it
abbrev pub IsKnownArrival : PlainInstance → List Exclusion → Arrival → Type 0
IsKnownArrival instance es (RefutedRoot token) = Unit {0}
IsKnownArrival instance es (Inner kind) = IsKind instance es kind × SidesFit instance
