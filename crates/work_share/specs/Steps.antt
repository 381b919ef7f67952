-- The steps of a board: its events, their replies, and what each leaves.
use Rattle.std.specs.Prelude.{ℕ, ◌≡◌, ◌<◌, List, [], ◌∷◌, ◌++◌, length, Some, None, Bool, true, false}
use Rattle.packing_terms.specs.Tokens.{PlainToken}
use Rattle.tree_terms.specs.Trees.{SearchTree, Verdict, count_of, PlainOutcome, Decided, Past, node_at}
use Rattle.tree_terms.specs.Paths.{node_view, Splits, outcome_at}
use Rattle.work_share.specs.Board.{BoardState, PlainTask, PlainEntry, waits_as, is_out, first_waiting, out_path}
use Rattle.work_share.specs.Board.{at_first, with_state, Out, Done, split_into}
use Rattle.work_share.specs.Runs.{is_board_over}
use Rattle.work_share.specs.declared.Event.{Event}
use Rattle.work_share.specs.declared.Event.TheVariants as stored

-- what is asked of a board: a task, to split or to finish a task that is out, and to note that a
-- worker was short of memory
pub data Request : Type 0 where
  AskTask : Request
  AskSplit : (number : ℕ) → Request
  AskFinish : (number : ℕ) (past : Bool) → Request
  NoteShort : Request

-- what it replies
pub data Reply : Type 0 where
  Job : (task : PlainTask) → Reply
  NoneWaits : Reply
  IsOver : Reply
  IsDone : Reply

-- the task of this number, which waits, is out
abbrev pub handed_out : ℕ → List PlainEntry → List PlainEntry
handed_out number = at_first (waits_as number) (λ e. with_state Out e ∷ [])

-- the task of this number, which is out, is split, with its children waiting, numbered from the
-- number of entries before on
abbrev pub divided : PlainToken → ℕ → ℕ → ℕ → List PlainEntry → List PlainEntry
divided token own children number entries =
    at_first (is_out number) (split_into token own children (length entries)) entries

-- the task of this number, which is out, is done
abbrev pub finished : PlainOutcome → ℕ → List PlainEntry → List PlainEntry
finished outcome number = at_first (is_out number) (λ e. with_state (Done outcome) e ∷ [])

-- what is stored of an outcome: the verdict, or that it is past the budget
abbrev pub outcome_given : Bool → Verdict → PlainOutcome
outcome_given true verdict = Past
outcome_given false verdict = Decided verdict

-- a board with other entries
abbrev pub with_entries : BoardState → List PlainEntry → BoardState
with_entries board entries = record board { entries = entries }

-- The task of this number is out, and the view of the tree's node at its path is a split: its entry and
-- its children stand in the task's place.
pub record Divides (tree : SearchTree) (old : BoardState) (number : ℕ) (new : BoardState) : Type 0 where
  pub path : List ℕ
  pub handed : out_path number old.entries ≡ Some path
  pub node : SearchTree
  pub there : node_at (Some tree) path ≡ Some node
  pub token : PlainToken
  pub own : ℕ
  pub children : ℕ
  pub told : node_view node ≡ Splits token own children
  pub after : new ≡ with_entries old (divided token own children number old.entries)

-- The task of this number is out, and is done with the tree's outcome at its path, or with past
-- where the count of that exceeds the budget.
pub record Finishes (tree : SearchTree) (budget : ℕ) (old : BoardState) (number : ℕ) (past : Bool) (new : BoardState) :
    Type 0 where
  pub path : List ℕ
  pub handed : out_path number old.entries ≡ Some path
  pub verdict : Verdict
  pub there : outcome_at tree path ≡ Some verdict
  pub above : past ≡ true → budget < count_of verdict
  pub after : new ≡ with_entries old (finished (outcome_given past verdict) number old.entries)

-- One step of the board for a tree and a budget: a request, its reply, and the state that it
-- leaves.
abbrev pub BoardStep : SearchTree → ℕ → BoardState → Request → Reply → BoardState → Type 0
BoardStep tree budget old AskTask IsOver new = (is_board_over budget old ≡ true) × (new ≡ old)
BoardStep tree budget old AskTask (Job task) new =
    (is_board_over budget old ≡ false) × (first_waiting old.entries ≡ Some task)
    × (new ≡ with_entries old (handed_out task.number old.entries))
BoardStep tree budget old AskTask NoneWaits new =
    (is_board_over budget old ≡ false) × (first_waiting old.entries ≡ None) × (new ≡ old)
BoardStep tree budget old AskTask IsDone new = ⊥
BoardStep tree budget old (AskSplit number) IsDone new = Divides tree old number new
BoardStep tree budget old (AskSplit number) IsOver new = ⊥
BoardStep tree budget old (AskSplit number) NoneWaits new = ⊥
BoardStep tree budget old (AskSplit number) (Job task) new = ⊥
BoardStep tree budget old (AskFinish number past) IsDone new = Finishes tree budget old number past new
BoardStep tree budget old (AskFinish number past) IsOver new = ⊥
BoardStep tree budget old (AskFinish number past) NoneWaits new = ⊥
BoardStep tree budget old (AskFinish number past) (Job task) new = ⊥
BoardStep tree budget old NoteShort IsDone new = new ≡ record old { is_short = true }
BoardStep tree budget old NoteShort IsOver new = ⊥
BoardStep tree budget old NoteShort NoneWaits new = ⊥
BoardStep tree budget old NoteShort (Job task) new = ⊥

-- a request with its reply
pub record Call : Type 0 where
  pub request : Request
  pub reply : Reply

-- each call is one step, from the first board to the last
abbrev pub AreSteps : SearchTree → ℕ → BoardState → List Call → BoardState → Type 0
AreSteps tree budget old [] new = new ≡ old
AreSteps tree budget old (c ∷ cs) new = (between : BoardState) × BoardStep tree budget old c.request c.reply between
    × AreSteps tree budget between cs new

-- the event of a call that changes the board: a reply without a task changes nothing
abbrev pub event_of : Request → Reply → List Event
event_of AskTask (Job task) = stored.Take task.number ∷ []
event_of AskTask NoneWaits = []
event_of AskTask IsOver = []
event_of AskTask IsDone = []
event_of (AskSplit number) reply = stored.Split number ∷ []
event_of (AskFinish number past) reply = stored.Finish number past ∷ []
event_of NoteShort reply = stored.Short ∷ []

abbrev pub events_of : List Call → List Event
events_of [] = []
events_of (c ∷ cs) = event_of c.request c.reply ++ events_of cs
