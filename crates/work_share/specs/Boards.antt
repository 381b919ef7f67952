-- A board as its callers see it, and what its type keeps.
use Rattle.std.specs.Prelude.{ℕ, ◌+◌, ◌*◌, ◌≡◌, ◌≤◌, ◌<◌, ◌⊎◌, List, [], ◌∷◌, ◌++◌, length, reverse, Bool}
use Rattle.std.specs.Prelude.{if◌then◌else◌, option_to_list}
use Rattle.tree_terms.specs.Trees.{SearchTree}
use Rattle.work_share.specs.declared.Event.{Event}
use Rattle.work_share.specs.Board.{BoardState, PlainTask, PlainEntry, SplitEntry, TaskEntry, PlainTaskState, Waits}
use Rattle.work_share.specs.Board.{Out, Done, waits, task_of}
use Rattle.work_share.specs.Replay.{replay}
use Rattle.work_share.specs.Kept.{OutsAreApart, AreTasksRight}
use Rattle.work_share.specs.declared.slot.Slot.{Slot}
use Rattle.work_share.specs.Slots.{entries_of}
use Rattle.work_share.specs.Fronts.{IsFront}

-- the tree and the budget that the board is for, and its state
pub record PlainBoard (T : Type 0) : Type 0 where
  pub tree : T
  pub budget : ℕ
  pub state : BoardState

abbrev pub stored_state : List Slot → List ℕ → Bool → BoardState
stored_state slots order is_short = record { entries = entries_of slots order; is_short = is_short }

-- the tasks that wait, in order
abbrev pub waiting_tasks : List PlainEntry → List PlainTask
waiting_tasks [] = []
waiting_tasks (e ∷ es) = (if waits e then option_to_list (task_of e) else []) ++ waiting_tasks es

-- how many events of its task are still to come
abbrev pub owed_in : PlainTaskState → ℕ
owed_in Waits = 2
owed_in Out = 1
owed_in (Done outcome) = 0

abbrev pub owed_by : PlainEntry → ℕ
owed_by (SplitEntry number path token own children) = 0
owed_by (TaskEntry number path state) = owed_in state

abbrev pub owed : List PlainEntry → ℕ
owed [] = 0
owed (e ∷ es) = owed_by e + owed es

-- the event that a worker was short of memory is still to come
abbrev pub owed_short : Bool → ℕ
owed_short is_short = if is_short then 0 else 1

-- n is in the list
abbrev pub IsIn : ℕ → List ℕ → Type 0
IsIn n [] = ⊥
IsIn n (m ∷ ms) = (n ≡ m) ⊎ IsIn n ms

-- The history replays to the state, no path of a task that is out is a prefix of another's, and
-- each done task has its node's outcome. Beside these: each number stands in the order, the tasks
-- that wait are on the stack with the leftmost on top, the front of the leftmost finished run is
-- known, and the history has room for all events that are still to come.
pub record IsKept (tree : SearchTree) (budget : ℕ) (slots : List Slot) (order : List ℕ) (stack : List PlainTask)
    (len count : ℕ) (is_ended is_short : Bool)
    (history : List Event) (capacity : ℕ) : Type 0 where
  pub replays : replay tree budget history ≡ stored_state slots order is_short
  pub apart : OutsAreApart (entries_of slots order)
  pub right : AreTasksRight tree budget (entries_of slots order)
  pub size : length slots ≡ length order
  pub all : (n : ℕ) → n < length order → IsIn n order
  pub stacked : stack ≡ reverse (waiting_tasks (entries_of slots order))
  pub front : IsFront budget (entries_of slots order) len count is_ended
  pub owes : length history + (owed (entries_of slots order) + owed_short is_short) ≡ 2 * length order + 1
  pub room : 2 * length order + 1 ≤ capacity
