-- Tokens of outer refutations, fed one by one to a list of open nodes. Behind the token of a
-- refuted set stand the tokens of an inner refutation, so a node is one of the outer tree, or one
-- of the inner tree of a set of boxes.
use Rattle.std.specs.Prelude.{ℕ, pred, ◌≤◌, List, [], ◌∷◌, length, map, Some, None}
use Rattle.packing_terms.specs.declared.Exclusion.{Exclusion}
use Rattle.packing_terms.specs.Packing.{PlainInstance}
use Rattle.packing_terms.specs.Scales.{Exceeds}
use Rattle.packing_terms.specs.Goals.{subset}
use Rattle.packing_terms.specs.Tokens.{PlainToken}
use Rattle.packing_terms.specs.Tokens.PlainToken.{Assign, Choose, SetRefuted, ValueShort, GlobalScales}
use Rattle.packing_terms.specs.Feeding.{Accepts, children, FeedsBy}
use Rattle.packing_terms.specs.OuterRefutation.{Bins, IsUsedBin, IsUnplaced, bin_named, placements, Choice, IsShort}
use Rattle.packing_terms.specs.OuterRefutation.{IsOpenBox, with_taken, with_left}

-- an open node: one of the outer tree, or one of the inner tree of a set of boxes, with its
-- exclusions
pub data OpenNode (Node : Type 0) : Type 0 where
  Outer : (node : Node) → OpenNode Node
  Inner : (keep : List ℕ) (exclusions : List Exclusion) → OpenNode Node

-- what a token asks of a node for k bins
abbrev pub AcceptsBins : PlainInstance → ℕ → OpenNode Bins → PlainToken → Type 0
AcceptsBins instance k (Inner keep es) t = Accepts (subset instance keep) es t
AcceptsBins instance k (Outer bins) (GlobalScales fs) = Exceeds instance fs k
AcceptsBins instance k (Outer bins) (SetRefuted (Some b)) = IsUsedBin bins b
AcceptsBins instance k (Outer bins) (Assign v) = IsUnplaced instance bins v
AcceptsBins instance k (Outer bins) _ = ⊥

-- the children of a node for k bins by a token
abbrev pub bin_children : ℕ → OpenNode Bins → PlainToken → List (OpenNode Bins)
bin_children k (Inner keep es) t = map (λ fs. Inner keep fs) (children es t)
bin_children k (Outer bins) (SetRefuted (Some b)) = Inner (bin_named bins b) [] ∷ []
bin_children k (Outer bins) (Assign v) = map (λ next. Outer next) (placements k bins (pred v))
bin_children k (Outer bins) _ = []

-- tokens fed to nodes for k bins
abbrev pub FeedsBins : PlainInstance → ℕ → List (OpenNode Bins) → List PlainToken → List (OpenNode Bins) → Type 0
FeedsBins instance k nodes tokens left = FeedsBy (AcceptsBins instance k) (bin_children k) nodes tokens left

-- what a token asks of a node for a value
abbrev pub AcceptsValue : PlainInstance → ℕ → OpenNode Choice → PlainToken → Type 0
AcceptsValue instance goal (Inner keep es) t = Accepts (subset instance keep) es t
AcceptsValue instance goal (Outer c) ValueShort = IsShort instance goal c
AcceptsValue instance goal (Outer c) (SetRefuted None) = 1 ≤ length c.taken
AcceptsValue instance goal (Outer c) (Choose v) = IsOpenBox instance c v
AcceptsValue instance goal (Outer c) _ = ⊥

-- the children of a node for a value by a token
abbrev pub choice_children : OpenNode Choice → PlainToken → List (OpenNode Choice)
choice_children (Inner keep es) t = map (λ fs. Inner keep fs) (children es t)
choice_children (Outer c) (SetRefuted None) = Inner c.taken [] ∷ []
choice_children (Outer c) (Choose v) = Outer (with_taken c (pred v)) ∷ Outer (with_left c (pred v)) ∷ []
choice_children (Outer c) _ = []

-- tokens fed to nodes for a value
abbrev pub FeedsValue : PlainInstance → ℕ → List (OpenNode Choice) → List PlainToken → List (OpenNode Choice) → Type 0
FeedsValue instance goal nodes tokens left = FeedsBy (AcceptsValue instance goal) choice_children nodes tokens left
