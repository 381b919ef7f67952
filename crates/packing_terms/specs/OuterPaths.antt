-- An outer tree that is fed token by token, as the nodes on the path to the current one, each with
-- the number of its closed children. Behind the token of a refuted set stand the open nodes of the
-- set's inner tree. The list of all open nodes is a function of these.
use Rattle.std.specs.Prelude.{ℕ, suc, pred, ◌+◌, ◌*◌, ◌-◌, List, [], ◌∷◌, ◌++◌, map, drop, Some, None}
use Rattle.packing_terms.specs.declared.Exclusion.{Exclusion}
use Rattle.packing_terms.specs.Packing.{PlainInstance, dims, box_count}
use Rattle.packing_terms.specs.Tokens.{PlainToken}
use Rattle.packing_terms.specs.Tokens.PlainToken.{Assign, Choose, SetRefuted}
use Rattle.packing_terms.specs.Feeding.{children}
use Rattle.packing_terms.specs.OuterRefutation.{Bins, bin_named, placements, Choice, with_taken, with_left}
use Rattle.packing_terms.specs.OuterFeeding.{OpenNode, Outer, Inner}

-- a split on the path: its node, the number of its box in the text, and how many of its children
-- are closed; the path continues with the next child
pub record PathNode (Node : Type 0) : Type 0 where
  pub node : Node
  pub box_no : ℕ
  pub closed : ℕ

-- what is fed next: an outer node, or the first open node of the inner tree of a set, with those
-- behind it
pub data CurrentNode (Node : Type 0) : Type 0 where
  At : (node : Node) → CurrentNode Node
  Inside : (keep : List ℕ) (exclusions : List Exclusion) (behind : List (List Exclusion)) → CurrentNode Node

-- a tree that is fed: whole, or the path to the current node, the innermost split first
pub data OuterView (Node : Type 0) : Type 0 where
  Whole : OuterView Node
  On : (path : List (PathNode Node)) (current : CurrentNode Node) → OuterView Node

-- the children of the splits on a path that aren't begun yet, the innermost first
abbrev pub waiting : {Node : Type 0} → (Node → ℕ → List Node) → List (PathNode Node) → List (OpenNode Node)
waiting below [] = []
waiting below (p ∷ path) = map (λ n. Outer n) (drop (suc p.closed) (below p.node p.box_no)) ++ waiting below path

-- all open nodes, the next one first
abbrev pub open_nodes : {Node : Type 0} → (Node → ℕ → List Node) → OuterView Node → List (OpenNode Node)
open_nodes below Whole = []
open_nodes below (On path (At node)) = Outer node ∷ waiting below path
open_nodes below (On path (Inside keep es behind)) = map (λ fs. Inner keep fs) (es ∷ behind) ++ waiting below path

-- the current node is closed: on to the next child of the innermost split that has one, and where
-- none has, the tree is whole
abbrev pub leave : {Node : Type 0} → (Node → ℕ → List Node) → List (PathNode Node) → OuterView Node
leave below [] = Whole
leave below (p ∷ path) =
    elim (drop (suc p.closed) (below p.node p.box_no)) [
      | [] ↦ leave below path
      | n ∷ more ↦ On (record p { closed = suc p.closed } ∷ path) (At n)
    ]

-- what a token does at an outer node: it splits the node by a box, begins the inner tree of a set,
-- or closes the node
pub data OuterStep : Type 0 where
  SplitBy : (box_no : ℕ) → OuterStep
  Begin : (keep : List ℕ) → OuterStep
  Close : OuterStep

-- the path on to the first child of a split; one without children is closed
abbrev pub enter : {Node : Type 0} → (Node → ℕ → List Node) → List (PathNode Node) → Node → ℕ → OuterView Node
enter below path node v =
    elim (below node v) [
      | [] ↦ leave below path
      | n ∷ more ↦ On (record { node = node; box_no = v; closed = 0 } ∷ path) (At n)
    ]

-- the inner tree of a set with these open nodes; without one it is closed
abbrev pub go_on : {Node : Type 0} → (Node → ℕ → List Node) → List (PathNode Node) → List ℕ → List (List Exclusion)
    → OuterView Node
go_on below path keep [] = leave below path
go_on below path keep (es ∷ behind) = On path (Inside keep es behind)

-- what a token makes of an outer node on the path
abbrev pub stepped : {Node : Type 0} → (Node → ℕ → List Node) → List (PathNode Node) → Node → OuterStep → OuterView Node
stepped below path node (SplitBy v) = enter below path node v
stepped below path node (Begin keep) = On path (Inside keep [] [])
stepped below path node Close = leave below path

-- the tree after a token
abbrev pub view_after : {Node : Type 0} → (Node → ℕ → List Node) → (Node → PlainToken → OuterStep) → OuterView Node
    → PlainToken → OuterView Node
view_after below step Whole t = Whole
view_after below step (On path (At node)) t = stepped below path node (step node t)
view_after below step (On path (Inside keep es behind)) t = go_on below path keep (children es t ++ behind)

-- and after some
abbrev pub views_after : {Node : Type 0} → (Node → ℕ → List Node) → (Node → PlainToken → OuterStep) → OuterView Node
    → List PlainToken → OuterView Node
views_after below step view [] = view
views_after below step view (t ∷ ts) = views_after below step (view_after below step view t) ts

-- the splits on the path to the current node
abbrev pub path_of : {Node : Type 0} → OuterView Node → List (PathNode Node)
path_of Whole = []
path_of (On path current) = path

-- for k bins: the children of a node by a box of the text, and what a token does
abbrev pub bins_with : ℕ → Bins → ℕ → List Bins
bins_with k bins v = placements k bins (pred v)

abbrev pub bin_step : Bins → PlainToken → OuterStep
bin_step bins (Assign v) = SplitBy v
bin_step bins (SetRefuted (Some b)) = Begin (bin_named bins b)
bin_step bins _ = Close

-- the same for a value
abbrev pub choices_with : Choice → ℕ → List Choice
choices_with c v = with_taken c (pred v) ∷ with_left c (pred v) ∷ []

abbrev pub choice_step : Choice → PlainToken → OuterStep
choice_step c (Choose v) = SplitBy v
choice_step c (SetRefuted None) = Begin c.taken
choice_step c _ = Close

-- the most open nodes of an inner tree: a pair is split at most twice in each dimension, and each
-- split leaves one node behind
abbrev pub most_open : PlainInstance → ℕ
most_open instance = dims instance * box_count instance * (box_count instance - 1) + 1
