-- Search trees, their verdicts and outcomes, and the outcome of a verdict under a budget.
use Rattle.std.specs.Prelude.{ℕ, zero, suc, ◌+◌, List, [], ◌∷◌, ◌++◌, Option, Some, None, nat_lt, if◌then◌else◌}
use Rattle.packing_terms.specs.Tokens.{PlainToken}

-- A finite tree. Each node has its own count of branchings. A settled node has an answer, a refuted
-- one a refutation. A split has a token, and `children` children, which are given by their index
-- from 0: only those that are visited are ever computed.
pub data SearchTree : Type 0 where
  Settled : (numbers : List ℕ) (own : ℕ) → SearchTree
  Refuted : (tokens : List PlainToken) (own : ℕ) → SearchTree
  Split : (token : PlainToken) (own : ℕ) (children : ℕ) → (ℕ → SearchTree) → SearchTree

-- What a search gives: yes with an answer, or no with a refutation, and the count of the nodes that
-- were visited.
pub data Verdict : Type 0 where
  Yes : (numbers : List ℕ) (count : ℕ) → Verdict
  No : (tokens : List PlainToken) (count : ℕ) → Verdict

-- no, of nothing: the unit of joining
abbrev pub no_tokens : Verdict
no_tokens = No [] 0

-- One search and then another. A yes on the left wins, and the other isn't visited; else the counts
-- add, and so do the tokens of two noes.
abbrev pub join : Verdict → Verdict → Verdict
join (Yes ns c) v = Yes ns c
join (No ts c) (Yes ns d) = Yes ns (c + d)
join (No ts c) (No us d) = No (ts ++ us) (c + d)

-- a given number of verdicts joined, from the given index on, read no further than the first yes
abbrev pub join_from : ℕ → ℕ → (ℕ → Verdict) → Verdict
join_from k zero verdicts = no_tokens
join_from k (suc more) verdicts =
    elim (verdicts k) [ Yes ns c ↦ Yes ns c | No ts c ↦ join (No ts c) (join_from (k + 1) more verdicts) ]

-- The outcome of a tree, visited depth first, first children first, up to the first settled node.
abbrev pub outcome : SearchTree → Verdict
outcome (Settled ns own) = Yes ns own
outcome (Refuted ts own) = No ts own
outcome (Split token own children child) = join (No (token ∷ []) own) (join_from 0 children (λ k. outcome (child k)))

-- the count of a verdict
abbrev pub count_of : Verdict → ℕ
count_of (Yes ns c) = c
count_of (No ts c) = c

-- The outcome under a budget: the verdict, or that its count is past the budget.
pub data PlainOutcome : Type 0 where
  Decided : (verdict : Verdict) → PlainOutcome
  Past : PlainOutcome

-- the verdict where its count is at most the budget, and past where it is greater
abbrev pub under_budget : ℕ → Verdict → PlainOutcome
under_budget budget v = if nat_lt budget (count_of v) then Past else Decided v

-- the child of this index
abbrev pub child_at : SearchTree → ℕ → Option SearchTree
child_at (Settled ns own) k = None
child_at (Refuted ts own) k = None
child_at (Split token own children child) k = if nat_lt k children then Some (child k) else None

-- the node at a path, which is the list of the indices of the children from the root on
abbrev pub node_at : Option SearchTree → List ℕ → Option SearchTree
node_at None path = None
node_at (Some t) [] = Some t
node_at (Some t) (k ∷ path) = node_at (child_at t k) path
