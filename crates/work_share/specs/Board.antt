-- What stands on a work board.
--
-- A board is for one search tree and one budget. Its entries stand in prefix order: each is a
-- split, or a task that waits, is out with a worker, or is done with an outcome. Each entry has a
-- number and the path of its node.
use Rattle.std.specs.Prelude.{ℕ, suc, zero, List, [], ◌∷◌, ◌++◌, Option, Some, None, Bool, true, false, ◌==◌}
use Rattle.std.specs.Prelude.{if◌then◌else◌}
use Rattle.packing_terms.specs.Tokens.{PlainToken}
use Rattle.tree_terms.specs.Trees.{PlainOutcome}

pub data PlainTaskState : Type 0 where
  Waits : PlainTaskState
  Out : PlainTaskState
  Done : (outcome : PlainOutcome) → PlainTaskState

pub data PlainEntry : Type 0 where
  SplitEntry : (number : ℕ) (path : List ℕ) (token : PlainToken) (own children : ℕ) → PlainEntry
  TaskEntry : (number : ℕ) (path : List ℕ) (state : PlainTaskState) → PlainEntry

-- the entries in prefix order, and whether a worker was short of memory
pub record BoardState : Type 0 where
  pub entries : List PlainEntry
  pub is_short : Bool

-- a task as it is handed out
pub record PlainTask : Type 0 where
  pub path : List ℕ
  pub number : ℕ

abbrev pub board_start : BoardState
board_start = record { entries = TaskEntry 0 [] Waits ∷ []; is_short = false }

abbrev pub entry_number : PlainEntry → ℕ
entry_number (SplitEntry number path token own children) = number
entry_number (TaskEntry number path state) = number

abbrev pub state_waits : PlainTaskState → Bool
state_waits Waits = true
state_waits Out = false
state_waits (Done outcome) = false

abbrev pub state_is_out : PlainTaskState → Bool
state_is_out Waits = false
state_is_out Out = true
state_is_out (Done outcome) = false

-- the entry is a task that waits
abbrev pub waits : PlainEntry → Bool
waits (SplitEntry number path token own children) = false
waits (TaskEntry number path state) = state_waits state

-- the entry is the task of this number, and waits
abbrev pub waits_as : ℕ → PlainEntry → Bool
waits_as n (SplitEntry number path token own children) = false
waits_as n (TaskEntry number path state) = if number == n then state_waits state else false

-- the entry is the task of this number, and out
abbrev pub is_out : ℕ → PlainEntry → Bool
is_out n (SplitEntry number path token own children) = false
is_out n (TaskEntry number path state) = if number == n then state_is_out state else false

-- the task of an entry, if it is one
abbrev pub task_of : PlainEntry → Option PlainTask
task_of (SplitEntry number path token own children) = None
task_of (TaskEntry number path state) = Some (record { path = path; number = number })

-- the path of an entry, if it is a task
abbrev pub entry_path : PlainEntry → Option (List ℕ)
entry_path (SplitEntry number path token own children) = None
entry_path (TaskEntry number path state) = Some path

-- the leftmost task that waits
abbrev pub first_waiting : List PlainEntry → Option PlainTask
first_waiting [] = None
first_waiting (e ∷ es) = if waits e then task_of e else first_waiting es

-- the path of the task of this number that is out
abbrev pub out_path : ℕ → List PlainEntry → Option (List ℕ)
out_path n [] = None
out_path n (e ∷ es) = if is_out n e then entry_path e else out_path n es

-- the first entry that passes a test gives way to others
abbrev pub at_first : (PlainEntry → Bool) → (PlainEntry → List PlainEntry) → List PlainEntry → List PlainEntry
at_first test change [] = []
at_first test change (e ∷ es) = if test e then change e ++ es else e ∷ at_first test change es

-- a task in another state
abbrev pub with_state : PlainTaskState → PlainEntry → PlainEntry
with_state state (SplitEntry number path token own children) = SplitEntry number path token own children
with_state state (TaskEntry number path old) = TaskEntry number path state

-- a given number of children of a split, from the k-th on, which wait: numbered from left to right
-- from `number` on
abbrev pub children_from : List ℕ → ℕ → ℕ → ℕ → List PlainEntry
children_from path k zero number = []
children_from path k (suc more) number =
    TaskEntry number (path ++ k ∷ []) Waits ∷ children_from path (suc k) more (suc number)

-- a split, which keeps its task's number, followed by its children
abbrev pub split_into : PlainToken → ℕ → ℕ → ℕ → PlainEntry → List PlainEntry
split_into token own children fresh (SplitEntry number path t o n) = SplitEntry number path t o n ∷ []
split_into token own children fresh (TaskEntry number path state) =
    SplitEntry number path token own children ∷ children_from path 0 children fresh
