-- The leftmost finished run of a board, when a board is over, and what its pieces join to.
use Rattle.std.specs.Prelude.{ℕ, ◌+◌, List, [], ◌∷◌, Bool, true, false, ◌||◌, nat_lt}
use Rattle.tree_terms.specs.Trees.{Verdict, Yes, No, no_tokens, join, count_of, PlainOutcome, Decided, Past, under_budget}
use Rattle.work_share.specs.Board.{PlainEntry, SplitEntry, TaskEntry, PlainTaskState, Waits, Out, Done, BoardState}

-- What the run joins to, and whether it is whole: it reaches the last entry, or ends with a yes.
pub record Run : Type 0 where
  pub verdict : Verdict
  pub is_whole : Bool

-- a piece in front of a run; a yes ends it
abbrev pub with_piece : Verdict → Run → Run
with_piece (Yes numbers count) run = record { verdict = Yes numbers count; is_whole = true }
with_piece (No tokens count) run = record { verdict = join (No tokens count) run.verdict; is_whole = run.is_whole }

-- a done task as a piece: one that is past the budget counts one more than the budget
abbrev pub piece_of : ℕ → PlainOutcome → Verdict
piece_of budget (Decided verdict) = verdict
piece_of budget Past = No [] (budget + 1)

-- a task in this state in front of a run: the run ends before a task that isn't done
abbrev pub with_task : ℕ → PlainTaskState → Run → Run
with_task budget Waits run = record { verdict = no_tokens; is_whole = false }
with_task budget Out run = record { verdict = no_tokens; is_whole = false }
with_task budget (Done outcome) run = with_piece (piece_of budget outcome) run

abbrev pub with_entry : ℕ → PlainEntry → Run → Run
with_entry budget (SplitEntry number path token own children) run = with_piece (No (token ∷ []) own) run
with_entry budget (TaskEntry number path state) run = with_task budget state run

-- The leftmost finished run: the entries from the first on, up to a task that is done with yes, or
-- before the first task that isn't done.
abbrev pub run_of : ℕ → List PlainEntry → Run
run_of budget [] = record { verdict = no_tokens; is_whole = true }
run_of budget (e ∷ es) = with_entry budget e (run_of budget es)

-- A board is over where a worker was short of memory, or its run is whole, or the run's count
-- exceeds the budget.
abbrev pub is_board_over : ℕ → BoardState → Bool
is_board_over budget board = board.is_short || (run_of budget board.entries).is_whole
    || nat_lt budget (count_of (run_of budget board.entries).verdict)

-- What a board that is over and not short joins to: the run's verdict, or past where the run's
-- count exceeds the budget. A whole run without a yes has the tokens of all entries in order.
abbrev pub board_joined : ℕ → BoardState → PlainOutcome
board_joined budget board = under_budget budget (run_of budget board.entries).verdict
