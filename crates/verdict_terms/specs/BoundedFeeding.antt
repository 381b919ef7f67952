-- Tokens of a bounded refutation, fed one by one to a list of open nodes. Nodes and plain tokens are
-- those of `FeedsValue`.
use Rattle.std.specs.Prelude.{ℕ, ◌≡◌, List, [], ◌∷◌, ◌++◌}
use Rattle.packing_terms.specs.Packing.{PlainInstance}
use Rattle.packing_terms.specs.OuterRefutation.{Choice}
use Rattle.packing_terms.specs.OuterFeeding.{OpenNode, Outer, Inner, AcceptsValue, choice_children}
use Rattle.verdict_terms.specs.Shares.{IsPricedOut}
use Rattle.verdict_terms.specs.Exchanges.{IsExchange}
use Rattle.verdict_terms.specs.BoundedRefutation.{BoundedToken, Plain, PricedOut, Exchange}

-- what a token asks of a node
abbrev pub AcceptsBounded : PlainInstance → ℕ → OpenNode Choice → BoundedToken → Type 0
AcceptsBounded instance goal node (Plain t) = AcceptsValue instance goal node t
AcceptsBounded instance goal (Outer c) (PricedOut q p fs) = IsPricedOut instance goal fs q p c
AcceptsBounded instance goal (Inner keep es) (PricedOut q p fs) = ⊥
AcceptsBounded instance goal (Outer c) (Exchange u v) = IsExchange instance c u v
AcceptsBounded instance goal (Inner keep es) (Exchange u v) = ⊥

-- the children of a node by a token
abbrev pub bounded_children : OpenNode Choice → BoundedToken → List (OpenNode Choice)
bounded_children node (Plain t) = choice_children node t
bounded_children node (PricedOut q p fs) = []
bounded_children node (Exchange u v) = []

-- The tokens are accepted one by one from the first nodes on, and leave the last ones.
abbrev pub FeedsBounded : PlainInstance → ℕ → List (OpenNode Choice) → List BoundedToken → List (OpenNode Choice) → Type 0
FeedsBounded instance goal nodes [] left = nodes ≡ left
FeedsBounded instance goal [] (t ∷ ts) left = ⊥
FeedsBounded instance goal (n ∷ nodes) (t ∷ ts) left =
    AcceptsBounded instance goal n t × FeedsBounded instance goal (bounded_children n t ++ nodes) ts left
