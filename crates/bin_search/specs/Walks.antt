-- The walk through a bin tree: what is left of the tree.
use Rattle.std.specs.Prelude.{ℕ, ◌+◌, ◌-◌, ◌<◌, ◌≤◌, ◌≡◌, List, [], ◌∷◌, length, drop, slice_index_or}
use Rattle.packing_terms.specs.Tokens.{PlainToken}
use Rattle.packing_terms.specs.OuterRefutation.{Bins, placements}
use Rattle.packing_terms.specs.Rank.{ranked}
use Rattle.tree_terms.specs.Trees.{SearchTree, Verdict, No, no_tokens, join, join_from, outcome}
use Rattle.tree_terms.specs.OuterTrees.{set_verdict, with_answer, bin_child, bin_node}
use Rattle.bin_search.specs.Nodes.{AreInBins, PlainPlaced, box_of}
use Rattle.bin_search.specs.Trees.{PlainBinTree}

-- the boxes that come after the one that a node gives a bin
abbrev pub later_boxes : PlainBinTree → PlainPlaced → List ℕ
later_boxes t c = drop (c.placed + 1) (ranked t.instance)

-- the used bins of a child, and that child
abbrev pub next_bins : PlainBinTree → PlainPlaced → ℕ → Bins
next_bins t c b = slice_index_or (placements t.bins c.bins (box_of t.instance c)) b []

abbrev pub child_of : PlainBinTree → PlainPlaced → ℕ → SearchTree
child_of t c b =
    bin_child b (set_verdict t.instance t.scales (slice_index_or (next_bins t c b) b []))
    (λ numbers count. bin_node t.instance t.scales t.bins (later_boxes t c) (next_bins t c b)
    (with_answer c.answers b numbers) count)

-- the number of children
abbrev pub width : PlainBinTree → PlainPlaced → ℕ
width t c = length (placements t.bins c.bins (box_of t.instance c))

-- what the children of a node give that haven't been visited
abbrev pub rest_verdict : PlainBinTree → PlainPlaced → Verdict
rest_verdict t c = join_from c.visited (width t c - c.visited) (λ b. outcome (child_of t c b))

-- what the nodes above still give, the nearest first
abbrev pub waiting_verdict : PlainBinTree → List PlainPlaced → Verdict
waiting_verdict t [] = no_tokens
waiting_verdict t (c ∷ cs) = join (rest_verdict t c) (waiting_verdict t cs)

-- a node with a box left, some of whose children have been visited
pub record IsSplit (t : PlainBinTree) (c : PlainPlaced) : Type 0 where
  pub there : c.placed < length (ranked t.instance)
  pub node : AreInBins t.instance t.bins c.placed c.bins c.answers
  pub visited : c.visited ≤ width t c

abbrev pub AreSplit : PlainBinTree → List PlainPlaced → Type 0
AreSplit t [] = Unit {0}
AreSplit t (c ∷ cs) = IsSplit t c × AreSplit t cs

-- What a walk has still to give: the tokens and the count so far, joined with the children of the
-- node in hand that haven't been visited, and with those of the nodes above, are what the whole
-- tree gives.
pub record IsLeft (t : PlainBinTree) (whole : Verdict) (tokens : List PlainToken) (count : ℕ) (c : PlainPlaced)
    (waiting : List PlainPlaced) : Type 0 where
  pub joined : join (No tokens count) (join (rest_verdict t c) (waiting_verdict t waiting)) ≡ whole
  pub node : IsSplit t c
  pub waits : AreSplit t waiting
