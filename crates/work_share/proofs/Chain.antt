-- The entries of a board stand for the whole search, whatever happened.
use Rattle.std.proofs.Common.{◌≡◌, ℕ, zero, suc, ◌+◌, ◌≤◌, refl, sym, ap, ap₂, ◌∙◌, arith, add-one, List, [], ◌∷◌, ◌++◌}
use Rattle.std.proofs.Common.{Option, Some, None, Bool, true, false, if◌then◌else◌}
use Rattle.packing_terms.specs.Tokens.{PlainToken}
use Rattle.tree_terms.specs.Trees.{SearchTree, Split, Verdict, No, no_tokens, join, join_from, outcome, node_at}
use Rattle.tree_terms.specs.Paths.{max_budget, PlainNode, Leaf, Splits, outcome_at, outcome_of}
use Rattle.tree_terms.proofs.Joins.{join_assoc, join_nothing, nothing_join, join_next}
use Rattle.tree_terms.proofs.Reached.{told_split, child_there}
use Rattle.work_share.specs.Board.{PlainEntry, SplitEntry, TaskEntry, PlainTaskState, Done, at_first, with_state}
use Rattle.work_share.specs.Board.{children_from}
use Rattle.work_share.specs.Replay.{told_there, split_as, split_by, outcome_read, done_with, done_by}

-- the verdict that may be there
abbrev pub verdict_or : Option Verdict → Verdict
verdict_or None = no_tokens
verdict_or (Some verdict) = verdict

-- what an entry stands for in the search
abbrev pub value_of : SearchTree → PlainEntry → Verdict
value_of tree (SplitEntry number path token own children) = No (token ∷ []) own
value_of tree (TaskEntry number path state) = verdict_or (outcome_at tree path)

-- the entries, one after another
abbrev pub chain : SearchTree → List PlainEntry → Verdict
chain tree [] = no_tokens
chain tree (e ∷ es) = join (value_of tree e) (chain tree es)

pub chain_append : (tree : SearchTree) (xs ys : List PlainEntry)
    → chain tree (xs ++ ys) ≡ join (chain tree xs) (chain tree ys)
chain_append tree [] ys = sym (nothing_join (chain tree ys))
chain_append tree (e ∷ xs) ys =
    ap (join (value_of tree e)) (chain_append tree xs ys)
    ∙ sym (join_assoc (value_of tree e) (chain tree xs) (chain tree ys))

pub chain_one : (tree : SearchTree) (e : PlainEntry) → chain tree (e ∷ []) ≡ value_of tree e
chain_one tree e = join_nothing (value_of tree e)

-- a change that keeps what an entry stands for keeps the whole
pub chain_at_first : (tree : SearchTree) (test : PlainEntry → Bool) (change : PlainEntry → List PlainEntry)
    → ((e : PlainEntry) → chain tree (change e) ≡ value_of tree e) → (es : List PlainEntry)
    → chain tree (at_first test change es) ≡ chain tree es
chain_at_first tree test change same [] = refl
chain_at_first tree test change same (e ∷ es) =
    elim (test e) as (λ b. chain tree (if b then change e ++ es else e ∷ at_first test change es)
    ≡ join (value_of tree e) (chain tree es)) [
      | true ↦ chain_append tree (change e) es ∙ ap (λ v. join v (chain tree es)) (same e)
      | false ↦ ap (join (value_of tree e)) (chain_at_first tree test change same es)
    ]

pub chain_with_state : (tree : SearchTree) (state : PlainTaskState) (e : PlainEntry)
    → chain tree (with_state state e ∷ []) ≡ value_of tree e
chain_with_state tree state (SplitEntry number path token own children) =
    chain_one tree (SplitEntry number path token own children)
chain_with_state tree state (TaskEntry number path old) = chain_one tree (TaskEntry number path state)

-- the children of a split stand for what the split leaves to search
pub chain_children : (tree : SearchTree) (path : List ℕ) (token : PlainToken) (own n : ℕ) (child : ℕ → SearchTree)
    → node_at (Some tree) path ≡ Some (Split token own n child) → (more k number : ℕ) → k + more ≤ n
    → chain tree (children_from path k more number) ≡ join_from k more (λ j. outcome (child j))
chain_children tree path token own n child there zero k number l = refl
chain_children tree path token own n child there (suc more) k number l =
    let first = child_there tree path k token own n child there (omega (arith, l)) in
    let rest = chain_children tree path token own n child there more (suc k) (suc number) (omega (arith, l)) in
    ap₂ join (ap (λ o. verdict_or (outcome_of o)) first)
    (rest ∙ ap (λ j. join_from j more (λ i. outcome (child i))) (sym (add-one k)))
    ∙ sym (join_next k more (λ j. outcome (child j)))

chain_split_as : (tree : SearchTree) (fresh number : ℕ) (path : List ℕ) (state : PlainTaskState) (o : Option SearchTree)
    → node_at (Some tree) path ≡ o
    → (told : PlainNode) → told_there o ≡ told → chain tree (split_as told fresh (TaskEntry number path state))
    ≡ verdict_or (outcome_at tree path)
chain_split_as tree fresh number path state o there Leaf e = chain_one tree (TaskEntry number path state)
chain_split_as tree fresh number path state None there (Splits token own n) e = cc
chain_split_as tree fresh number path state (Some node) there (Splits token own n) e =
    go ((told_split node token own n).0 e)
  where
    go : (child : ℕ → SearchTree) × (node ≡ Split token own n child) × (own ≤ max_budget)
        → join (No (token ∷ []) own) (chain tree (children_from path 0 n fresh)) ≡ verdict_or (outcome_at tree path)
    go (child, is, small) =
        let at = there ∙ ap (λ (t : SearchTree). Some t) is in
        ap (join (No (token ∷ []) own)) (chain_children tree path token own n child at n 0 fresh (omega arith))
        ∙ sym (ap (λ p. verdict_or (outcome_of p)) at)

pub chain_split_by : (tree : SearchTree) (fresh : ℕ) (e : PlainEntry)
    → chain tree (split_by tree fresh e) ≡ value_of tree e
chain_split_by tree fresh (SplitEntry number path token own children) =
    chain_one tree (SplitEntry number path token own children)
chain_split_by tree fresh (TaskEntry number path state) =
    chain_split_as tree fresh number path state (node_at (Some tree) path) refl
    (told_there (node_at (Some tree) path)) refl

pub chain_done_by : (tree : SearchTree) (budget : ℕ) (past : Bool) (e : PlainEntry)
    → chain tree (done_by tree budget past e) ≡ value_of tree e
chain_done_by tree budget past (SplitEntry number path token own children) =
    chain_one tree (SplitEntry number path token own children)
chain_done_by tree budget past (TaskEntry number path state) = go (outcome_at tree path)
  where
    go : (o : Option Verdict) → chain tree (done_with budget past o (TaskEntry number path state) ∷ [])
        ≡ verdict_or (outcome_at tree path)
    go None = chain_one tree (TaskEntry number path state)
    go (Some verdict) = chain_one tree (TaskEntry number path (Done (outcome_read budget past verdict)))
