-- The tree of a document while its lines come: what it is to refute, and its open nodes.
use Rattle.std.specs.Prelude.{ℕ, Bool, true, false, List, [], ◌∷◌, Result, Ok, Err}
use Rattle.packing_terms.specs.declared.Exclusion.{Exclusion}
use Rattle.packing_terms.specs.Packing.{PlainInstance, dims}
use Rattle.packing_terms.specs.Tokens.{PlainToken}
use Rattle.packing_terms.specs.Refutation.{Refutes}
use Rattle.packing_terms.specs.OuterRefutation.{Bins as UsedBins, Choice as BoxChoice, no_choice, IsBinRefutation}
use Rattle.packing_terms.specs.OuterRefutation.{IsValueRefutation}
use Rattle.packing_terms.specs.OuterFeeding.{OpenNode, Outer}
use Rattle.verdict_terms.specs.declared.check_answers.RefuseCode.{RefuseCode}
use Rattle.verdict_terms.specs.Checking.{inner_after, bins_after, value_after}

-- what is to be refuted: that the instance fits, by a tree that begins with these exclusions; that it
-- fits in `bins` bins; that it reaches a value
pub data Refuted : Type 0 where
  ToFit : (instance : PlainInstance) (start : List Exclusion) → Refuted
  ToFitIn : (instance : PlainInstance) (bins : ℕ) → Refuted
  ToReach : (instance : PlainInstance) (value : ℕ) → Refuted

-- the instance
abbrev pub refuted_instance : Refuted → PlainInstance
refuted_instance (ToFit instance start) = instance
refuted_instance (ToFitIn instance k) = instance
refuted_instance (ToReach instance y) = instance

-- the dimensions of the instance
abbrev pub refuted_dims : Refuted → ℕ
refuted_dims (ToFit instance start) = dims instance
refuted_dims (ToFitIn instance k) = dims instance
refuted_dims (ToReach instance y) = dims instance

-- the tokens refute it
abbrev pub AreRefutation : Refuted → List PlainToken → Type 0
AreRefutation (ToFit instance start) tokens = Refutes instance start tokens
AreRefutation (ToFitIn instance k) tokens = IsBinRefutation instance k tokens
AreRefutation (ToReach instance y) tokens = IsValueRefutation instance y tokens

-- a tree with its open nodes, the next one first
pub data Tree : Type 0 where
  InnerTree : (instance : PlainInstance) (nodes : List (List Exclusion)) → Tree
  BinTree : (instance : PlainInstance) (bins : ℕ) (nodes : List (OpenNode UsedBins)) → Tree
  ValueTree : (instance : PlainInstance) (value : ℕ) (nodes : List (OpenNode BoxChoice)) → Tree

-- no token was fed yet
abbrev pub begun : Refuted → Tree
begun (ToFit instance start) = InnerTree instance (start ∷ [])
begun (ToFitIn instance k) = BinTree instance k (Outer [] ∷ [])
begun (ToReach instance y) = ValueTree instance y (Outer no_choice ∷ [])

-- the dimensions of the instance
abbrev pub tree_dims : Tree → ℕ
tree_dims (InnerTree instance nodes) = dims instance
tree_dims (BinTree instance k nodes) = dims instance
tree_dims (ValueTree instance y nodes) = dims instance

-- what stands where there is a value
abbrev pub map_ok : {A B E : Type 0} → (A → B) → Result A E → Result B E
map_ok f (Ok x) = Ok (f x)
map_ok f (Err e) = Err e

-- the tree after a token more, or why the token is refused
abbrev pub tree_after : Tree → PlainToken → Result Tree RefuseCode
tree_after (InnerTree instance nodes) t = map_ok (InnerTree instance) (inner_after instance nodes t)
tree_after (BinTree instance k nodes) t = map_ok (BinTree instance k) (bins_after instance k nodes t)
tree_after (ValueTree instance y nodes) t = map_ok (ValueTree instance y) (value_after instance y nodes t)

-- no node is left
abbrev pub is_whole : Tree → Bool
is_whole (InnerTree instance []) = true
is_whole (BinTree instance k []) = true
is_whole (ValueTree instance y []) = true
is_whole _ = false
