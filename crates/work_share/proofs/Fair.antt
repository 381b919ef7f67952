-- Each of the three changes of an entry is fair: a task that is handed out, one that is split, and one that is done.
use Rattle.std.proofs.Common.{◌≡◌, ℕ, zero, suc, ◌+◌, ◌<◌, ◌≤◌, inl, inr, refl, sym, ap, ◌∙◌, subst, arith, List, []}
use Rattle.std.proofs.Common.{◌∷◌, ◌++◌, map, Option, Some, None, Bool, true, false, if◌then◌else◌, ltb, option_to_list}
use Rattle.std.proofs.lemmas.Bool.{ltb-true}
use Rattle.packing_terms.specs.Tokens.{PlainToken}
use Rattle.tree_terms.specs.Trees.{SearchTree, Verdict, Decided, Past, under_budget, count_of, node_at}
use Rattle.tree_terms.specs.Paths.{PlainNode, Leaf, Splits, node_view, outcome_at, IsReachable}
use Rattle.tree_terms.proofs.Reached.{reached_next}
use Rattle.work_share.specs.Board.{PlainEntry, SplitEntry, TaskEntry, Out, with_state, entry_number, entry_path}
use Rattle.work_share.specs.Board.{children_from}
use Rattle.work_share.specs.Replay.{told_there, split_as, split_by, outcome_read, done_with, done_by}
use Rattle.work_share.specs.Kept.{leads_left, IsLeftOf, AreFromLeft, task_paths, IsOutcomeOf, AreTasksRight}
use Rattle.work_share.proofs.Lists.{numbers_from}
use Rattle.work_share.proofs.Left.{AreAllLeftOf, left_of_longer, longer_is_left, child_is_left}
use Rattle.work_share.proofs.Chain.{chain, value_of, chain_with_state, chain_split_by, chain_done_by}
use Rattle.work_share.proofs.Changes.{IsFair}

-- a state that keeps an entry right
pub record KeepsRight (tree : SearchTree) (budget : ℕ) (change : PlainEntry → PlainEntry) : Type 0 where
  pub whole : (e : PlainEntry) → chain tree (change e ∷ []) ≡ value_of tree e
  pub right : (e : PlainEntry) → AreTasksRight tree budget (e ∷ []) → AreTasksRight tree budget (change e ∷ [])
  pub paths : (e : PlainEntry) → entry_path (change e) ≡ entry_path e
  pub number : (e : PlainEntry) → entry_number (change e) ≡ entry_number e

one_from_left : (o : Option (List ℕ)) → AreFromLeft (option_to_list o)
one_from_left None = tt
one_from_left (Some p) = (tt, tt)

paths_one : (e : PlainEntry) → task_paths (e ∷ []) ≡ option_to_list (entry_path e)
paths_one (SplitEntry number path token own children) = refl
paths_one (TaskEntry number path state) = refl

-- where the entry stays and only its state changes
pub fair_state : (tree : SearchTree) (budget fresh : ℕ) (change : PlainEntry → PlainEntry)
    → KeepsRight tree budget change
    → IsFair tree budget fresh (λ e. change e ∷ [])
fair_state tree budget fresh change k = record {
  whole = k.whole;
  right = k.right;
  inner = λ e. subst AreFromLeft (sym (paths_one (change e))) (one_from_left (entry_path (change e)));
  behind = λ e p a. subst (λ ps. IsLeftOf p ps) (sym (same e)) a;
  before = λ e qs a. subst (λ ps. AreAllLeftOf ps qs) (sym (same e)) a;
  more = λ e. 0;
  numbers = λ e. ap (λ n. n ∷ []) (k.number e);
}
  where
    same : (e : PlainEntry) → task_paths (change e ∷ []) ≡ option_to_list (entry_path e)
    same e = paths_one (change e) ∙ ap option_to_list (k.paths e)

pub out_keeps : (tree : SearchTree) (budget : ℕ) → KeepsRight tree budget (with_state Out)
out_keeps tree budget = record {
  whole = chain_with_state tree Out;
  right = keeps;
  paths = same;
  number = numbered;
}
  where
    keeps : (e : PlainEntry) → AreTasksRight tree budget (e ∷ []) → AreTasksRight tree budget (with_state Out e ∷ [])
    keeps (SplitEntry number path token own children) a = tt
    keeps (TaskEntry number path state) a = ((a.0.0, tt), tt)

    same : (e : PlainEntry) → entry_path (with_state Out e) ≡ entry_path e
    same (SplitEntry number path token own children) = refl
    same (TaskEntry number path state) = refl

    numbered : (e : PlainEntry) → entry_number (with_state Out e) ≡ entry_number e
    numbered (SplitEntry number path token own children) = refl
    numbered (TaskEntry number path state) = refl

-- the outcome under a cap that is at least the budget is the node's outcome
pub told_is_outcome : (budget cap : ℕ) (verdict : Verdict) → budget ≤ cap
    → IsOutcomeOf budget verdict (under_budget cap verdict)
told_is_outcome budget cap verdict l = go (ltb cap (count_of verdict)) refl
  where
    go : (b : Bool) → ltb cap (count_of verdict) ≡ b → IsOutcomeOf budget verdict (if b then Past else Decided verdict)
    go true e = inr (refl, let m = ltb-true cap (count_of verdict) e in omega (arith, m, l))
    go false e = inl refl

pub read_is_outcome : (budget : ℕ) (past : Bool) (verdict : Verdict)
    → IsOutcomeOf budget verdict (outcome_read budget past verdict)
read_is_outcome budget true verdict = told_is_outcome budget budget verdict (omega arith)
read_is_outcome budget false verdict = inl refl

-- an entry, done with what the tree has there
abbrev pub done_entry : SearchTree → ℕ → Bool → PlainEntry → PlainEntry
done_entry tree budget past (SplitEntry number path token own children) = SplitEntry number path token own children
done_entry tree budget past (TaskEntry number path state) =
    done_with budget past (outcome_at tree path) (TaskEntry number path state)

pub done_one : (tree : SearchTree) (budget : ℕ) (past : Bool) (e : PlainEntry)
    → done_by tree budget past e ≡ done_entry tree budget past e ∷ []
done_one tree budget past (SplitEntry number path token own children) = refl
done_one tree budget past (TaskEntry number path state) = refl

pub done_keeps : (tree : SearchTree) (budget : ℕ) (past : Bool) → KeepsRight tree budget (done_entry tree budget past)
done_keeps tree budget past = record {
  whole = λ e. ap (chain tree) (sym (done_one tree budget past e)) ∙ chain_done_by tree budget past e;
  right = keeps;
  paths = same;
  number = numbered;
}
  where
    keeps : (e : PlainEntry) → AreTasksRight tree budget (e ∷ [])
        → AreTasksRight tree budget (done_entry tree budget past e ∷ [])
    keeps (SplitEntry number path token own children) a = tt
    keeps (TaskEntry number path state) a = go (outcome_at tree path) refl
      where
        go : (o : Option Verdict) → outcome_at tree path ≡ o
            → AreTasksRight tree budget (done_with budget past o (TaskEntry number path state) ∷ [])
        go None e = a
        go (Some verdict) e = ((a.0.0, (verdict, e, read_is_outcome budget past verdict)), tt)

    same : (e : PlainEntry) → entry_path (done_entry tree budget past e) ≡ entry_path e
    same (SplitEntry number path token own children) = refl
    same (TaskEntry number path state) = go (outcome_at tree path)
      where
        go : (o : Option Verdict) → entry_path (done_with budget past o (TaskEntry number path state)) ≡ Some path
        go None = refl
        go (Some verdict) = refl

    numbered : (e : PlainEntry) → entry_number (done_entry tree budget past e) ≡ entry_number e
    numbered (SplitEntry number path token own children) = refl
    numbered (TaskEntry number path state) = go (outcome_at tree path)
      where
        go : (o : Option Verdict) → entry_number (done_with budget past o (TaskEntry number path state)) ≡ number
        go None = refl
        go (Some verdict) = refl

-- ---- the children of a split

children_numbers : (path : List ℕ) (more k number : ℕ) → map entry_number (children_from path k more number)
    ≡ numbers_from number more
children_numbers path zero k number = refl
children_numbers path (suc more) k number = ap (λ ns. number ∷ ns) (children_numbers path more (suc k) (suc number))

children_behind : (p path : List ℕ) (more k number : ℕ) → leads_left p path ≡ true
    → IsLeftOf p (task_paths (children_from path k more number))
children_behind p path zero k number h = tt
children_behind p path (suc more) k number h =
    (left_of_longer p path (k ∷ []) h, children_behind p path more (suc k) (suc number) h)

child_before : (path : List ℕ) (k : ℕ) (qs : List (List ℕ)) → IsLeftOf path qs → IsLeftOf (path ++ k ∷ []) qs
child_before path k [] a = tt
child_before path k (q ∷ qs) a = (longer_is_left path q (k ∷ []) a.0, child_before path k qs a.1)

children_before : (path : List ℕ) (more k number : ℕ) (qs : List (List ℕ)) → IsLeftOf path qs
    → AreAllLeftOf (task_paths (children_from path k more number)) qs
children_before path zero k number qs a = tt
children_before path (suc more) k number qs a =
    (child_before path k qs a, children_before path more (suc k) (suc number) qs a)

child_left : (path : List ℕ) (i more k number : ℕ) → i < k
    → IsLeftOf (path ++ i ∷ []) (task_paths (children_from path k more number))
child_left path i zero k number l = tt
child_left path i (suc more) k number l =
    (child_is_left path i k l, child_left path i more (suc k) (suc number) (omega (arith, l)))

children_inner : (path : List ℕ) (more k number : ℕ) → AreFromLeft (task_paths (children_from path k more number))
children_inner path zero k number = tt
children_inner path (suc more) k number =
    (child_left path k more (suc k) (suc number) (omega arith), children_inner path more (suc k) (suc number))

children_right : (tree : SearchTree) (budget : ℕ) (path : List ℕ) (node : SearchTree) (token : PlainToken) (own n : ℕ)
    → IsReachable tree path
    → node_at (Some tree) path ≡ Some node → node_view node ≡ Splits token own n → (more k number : ℕ) → k + more ≤ n
    → AreTasksRight tree budget (children_from path k more number)
children_right tree budget path node token own n r there told zero k number l = tt
children_right tree budget path node token own n r there told (suc more) k number l = (
  (
    (reached_next tree path k).1 (
      r,
      record {
        node = node;
        there = there;
        token = token;
        own = own;
        children = n;
        told = told;
        child = omega (arith, l);
      },
    ),
    tt,
  ),
  children_right tree budget path node token own n r there told more (suc k) (suc number) (omega (arith, l)),
)

-- how many fresh numbers a node with this view takes
abbrev pub children_in : PlainNode → ℕ
children_in Leaf = 0
children_in (Splits token own n) = n

abbrev pub more_by : SearchTree → PlainEntry → ℕ
more_by tree (SplitEntry number path token own children) = 0
more_by tree (TaskEntry number path state) = children_in (told_there (node_at (Some tree) path))

pub split_fair : (tree : SearchTree) (budget fresh : ℕ) → IsFair tree budget fresh (split_by tree fresh)
split_fair tree budget fresh = record {
  whole = chain_split_by tree fresh;
  right = keeps;
  inner = inside;
  behind = behind;
  before = before;
  more = more_by tree;
  numbers = numbered;
}
  where
    keeps : (e : PlainEntry) → AreTasksRight tree budget (e ∷ []) → AreTasksRight tree budget (split_by tree fresh e)
    keeps (SplitEntry number path token own children) a = tt
    keeps (TaskEntry number path state) a =
        go (node_at (Some tree) path) refl (told_there (node_at (Some tree) path)) refl
      where
        go : (o : Option SearchTree) → node_at (Some tree) path ≡ o → (t : PlainNode) → told_there o ≡ t
            → AreTasksRight tree budget (split_as t fresh (TaskEntry number path state))
        go o there Leaf e = a
        go None there (Splits token own n) e = absurd (cc e)
        go (Some node) there (Splits token own n) e =
            children_right tree budget path node token own n a.0.0 there e n 0 fresh (omega arith)

    inside : (e : PlainEntry) → AreFromLeft (task_paths (split_by tree fresh e))
    inside (SplitEntry number path token own children) = tt
    inside (TaskEntry number path state) = go (told_there (node_at (Some tree) path))
      where
        go : (t : PlainNode) → AreFromLeft (task_paths (split_as t fresh (TaskEntry number path state)))
        go Leaf = (tt, tt)
        go (Splits token own n) = children_inner path n 0 fresh

    behind : (e : PlainEntry) (p : List ℕ) → IsLeftOf p (option_to_list (entry_path e))
        → IsLeftOf p (task_paths (split_by tree fresh e))
    behind (SplitEntry number path token own children) p a = tt
    behind (TaskEntry number path state) p a = go (told_there (node_at (Some tree) path))
      where
        go : (t : PlainNode) → IsLeftOf p (task_paths (split_as t fresh (TaskEntry number path state)))
        go Leaf = a
        go (Splits token own n) = children_behind p path n 0 fresh a.0

    before : (e : PlainEntry) (qs : List (List ℕ)) → AreAllLeftOf (option_to_list (entry_path e)) qs
        → AreAllLeftOf (task_paths (split_by tree fresh e)) qs
    before (SplitEntry number path token own children) qs a = tt
    before (TaskEntry number path state) qs a = go (told_there (node_at (Some tree) path))
      where
        go : (t : PlainNode) → AreAllLeftOf (task_paths (split_as t fresh (TaskEntry number path state))) qs
        go Leaf = a
        go (Splits token own n) = children_before path n 0 fresh qs a.0

    numbered : (e : PlainEntry) → map entry_number (split_by tree fresh e) ≡ entry_number e
        ∷ numbers_from fresh (more_by tree e)
    numbered (SplitEntry number path token own children) = refl
    numbered (TaskEntry number path state) = go (told_there (node_at (Some tree) path))
      where
        go : (t : PlainNode) → map entry_number (split_as t fresh (TaskEntry number path state)) ≡ number
            ∷ numbers_from fresh (children_in t)
        go Leaf = refl
        go (Splits token own n) = ap (λ ns. number ∷ ns) (children_numbers path n 0 fresh)
