-- Nodes by their paths: what a node at a path stands for, what is reported of it, and which paths a
-- search may come to.
use Rattle.std.specs.Prelude.{ℕ, zero, suc, pred, ◌≤◌, ◌≡◌, List, [], ◌∷◌, ◌++◌, Option, Some, None, IsSome, nat_lt}
use Rattle.std.specs.Prelude.{if◌then◌else◌, slice_index_or}
use Rattle.packing_terms.specs.declared.Exclusion.{Exclusion}
use Rattle.packing_terms.specs.Tokens.{PlainToken}
use Rattle.packing_terms.specs.Tokens.PlainToken.{Assign, Choose}
use Rattle.packing_terms.specs.Feeding.{children}
use Rattle.packing_terms.specs.OuterRefutation.{Bins, placements, Choice, with_taken, with_left}
use Rattle.tree_terms.specs.Trees.{SearchTree, Settled, Refuted, Split, Verdict, outcome, node_at}

-- the exclusions of the node at a path: those of the root, and what each split on the way adds to
-- its child there
abbrev pub exclusions_at : List Exclusion → SearchTree → List ℕ → List Exclusion
exclusions_at es tree [] = es
exclusions_at es (Settled numbers own) (k ∷ path) = es
exclusions_at es (Refuted tokens own) (k ∷ path) = es
exclusions_at es (Split token own n child) (k ∷ path) =
    exclusions_at (slice_index_or (children es token) k []) (child k) path

-- the bins of a child of a bin tree: those with the box of the token in the place of this number
abbrev pub bins_below : ℕ → Bins → PlainToken → ℕ → Bins
bins_below k bins (Assign v) b = slice_index_or (placements k bins (pred v)) b []
bins_below k bins _ b = bins

-- the bins of the node at a path
abbrev pub bins_at : ℕ → Bins → SearchTree → List ℕ → Bins
bins_at k bins tree [] = bins
bins_at k bins (Settled numbers own) (b ∷ path) = bins
bins_at k bins (Refuted tokens own) (b ∷ path) = bins
bins_at k bins (Split token own n child) (b ∷ path) = bins_at k (bins_below k bins token b) (child b) path

-- the boxes that are in and out at a child of a choice tree: the first has the box of the token in,
-- the second out
abbrev pub choice_below : Choice → PlainToken → ℕ → Choice
choice_below c (Choose v) zero = with_taken c (pred v)
choice_below c (Choose v) (suc b) = with_left c (pred v)
choice_below c _ b = c

-- the boxes that are in and out at the node at a path
abbrev pub choice_at : Choice → SearchTree → List ℕ → Choice
choice_at c tree [] = c
choice_at c (Settled numbers own) (b ∷ path) = c
choice_at c (Refuted tokens own) (b ∷ path) = c
choice_at c (Split token own n child) (b ∷ path) = choice_at (choice_below c token b) (child b) path

-- the greatest budget
abbrev pub max_budget : ℕ
max_budget = 10000000

-- a node's own count
abbrev pub own_of : SearchTree → ℕ
own_of (Settled numbers own) = own
own_of (Refuted tokens own) = own
own_of (Split token own n child) = own

-- a node as it is reported: a leaf, or a split with its token, its own count and the number of its
-- children
pub data PlainNode : Type 0 where
  Leaf : PlainNode
  Splits : (token : PlainToken) (own children : ℕ) → PlainNode

-- What is reported of a node. A split whose own count is past every budget is reported as a leaf: no
-- budget reaches its children.
abbrev pub node_view : SearchTree → PlainNode
node_view (Settled numbers own) = Leaf
node_view (Refuted tokens own) = Leaf
node_view (Split token own n child) = if nat_lt max_budget own then Leaf else Splits token own n

-- the path names a node, and no node above that one has an own count past every budget
pub record IsReachable (tree : SearchTree) (path : List ℕ) : Type 0 where
  pub there : IsSome (node_at (Some tree) path)
  pub within : (front rest : List ℕ) (k : ℕ) → path ≡ front ++ k ∷ rest → (node : SearchTree)
      → node_at (Some tree) front ≡ Some node
      → own_of node ≤ max_budget

-- the path leads on to child `k`: its node is reported as a split with more than `k` children
pub record LeadsTo (tree : SearchTree) (path : List ℕ) (k : ℕ) : Type 0 where
  pub node : SearchTree
  pub there : node_at (Some tree) path ≡ Some node
  pub token : PlainToken
  pub own : ℕ
  pub children : ℕ
  pub told : node_view node ≡ Splits token own children
  pub child : suc k ≤ children

-- the outcome of a node that may be there
abbrev pub outcome_of : Option SearchTree → Option Verdict
outcome_of None = None
outcome_of (Some node) = Some (outcome node)

-- the outcome of the node at a path, if the path names one
abbrev pub outcome_at : SearchTree → List ℕ → Option Verdict
outcome_at tree path = outcome_of (node_at (Some tree) path)
