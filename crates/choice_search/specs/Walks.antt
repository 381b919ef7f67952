-- The walk through a choice tree: what is left of the tree.
use Rattle.std.specs.Prelude.{ℕ, ◌≡◌, List, [], ◌∷◌, drop}
use Rattle.packing_terms.specs.Packing.{PlainInstance}
use Rattle.packing_terms.specs.Tokens.{PlainToken}
use Rattle.packing_terms.specs.Rank.{ranked}
use Rattle.tree_terms.specs.Trees.{Verdict, No, no_tokens, join, outcome}
use Rattle.tree_terms.specs.OuterTrees.{choice_node}
use Rattle.choice_search.specs.declared.node.Chosen.{Chosen}
use Rattle.choice_search.specs.Choices.{PlainChoiceTree, IsChosen}

-- the outcome of a node, with its own count
abbrev pub node_verdict : PlainChoiceTree → Chosen → ℕ → Verdict
node_verdict t c own = outcome
    (choice_node t.instance t.scales t.goal (drop c.decided (ranked t.instance)) c.taken.items c.numbers.items own)

-- what the second children give that wait, the one to be visited next first: each counts 1
abbrev pub waiting_verdict : PlainChoiceTree → List Chosen → Verdict
waiting_verdict t [] = no_tokens
waiting_verdict t (c ∷ cs) = join (node_verdict t c 1) (waiting_verdict t cs)

-- each of them is a node
abbrev pub AreChosen : PlainInstance → List Chosen → Type 0
AreChosen instance [] = Unit {0}
AreChosen instance (c ∷ cs) = IsChosen instance c.decided c.taken.items c.numbers.items × AreChosen instance cs

-- What a walk has still to give: the tokens and the count so far, joined with the node that comes
-- next, whose own count is among them, and with what waits, are what the whole tree gives.
pub record IsLeft (t : PlainChoiceTree) (whole : Verdict) (tokens : List PlainToken) (count : ℕ) (c : Chosen)
    (waiting : List Chosen) : Type 0 where
  pub joined : join (No tokens count) (join (node_verdict t c 0) (waiting_verdict t waiting)) ≡ whole
  pub node : IsChosen t.instance c.decided c.taken.items c.numbers.items
  pub waits : AreChosen t.instance waiting
