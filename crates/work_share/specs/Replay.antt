-- The replay of a history: what each stored event makes of a board, with all else read from the
-- tree.
use Rattle.std.specs.Prelude.{ℕ, List, [], ◌∷◌, ◌++◌, length, Option, Some, None, Bool, true, false, fold}
use Rattle.std.specs.Prelude.{option_to_list}
use Rattle.tree_terms.specs.Trees.{SearchTree, Verdict, PlainOutcome, Decided, under_budget, node_at}
use Rattle.tree_terms.specs.Paths.{PlainNode, Leaf, Splits, node_view, outcome_at}
use Rattle.work_share.specs.Board.{BoardState, board_start, PlainEntry, SplitEntry, TaskEntry, is_out, out_path}
use Rattle.work_share.specs.Board.{at_first, with_state, Done, split_into}
use Rattle.work_share.specs.Steps.{handed_out, with_entries}
use Rattle.work_share.specs.declared.Event.{Event}
use Rattle.work_share.specs.declared.Event.TheVariants as stored

-- the view of the node at a path; where there is none, a leaf
abbrev pub told_there : Option SearchTree → PlainNode
told_there None = Leaf
told_there (Some node) = node_view node

-- an entry as a node with this view leaves it
abbrev pub split_as : PlainNode → ℕ → PlainEntry → List PlainEntry
split_as Leaf fresh e = e ∷ []
split_as (Splits token own children) fresh e = split_into token own children fresh e

-- an entry, split as the tree has it at its path
abbrev pub split_by : SearchTree → ℕ → PlainEntry → List PlainEntry
split_by tree fresh (SplitEntry number path token own children) = SplitEntry number path token own children ∷ []
split_by tree fresh (TaskEntry number path state) =
    split_as (told_there (node_at (Some tree) path)) fresh (TaskEntry number path state)

-- the outcome that is read from the tree: the one under the budget where past was given, and else
-- the whole verdict
abbrev pub outcome_read : ℕ → Bool → Verdict → PlainOutcome
outcome_read budget true verdict = under_budget budget verdict
outcome_read budget false verdict = Decided verdict

-- an entry, done with the outcome that is there
abbrev pub done_with : ℕ → Bool → Option Verdict → PlainEntry → PlainEntry
done_with budget past None e = e
done_with budget past (Some verdict) e = with_state (Done (outcome_read budget past verdict)) e

-- an entry, done with what the tree has at its path
abbrev pub done_by : SearchTree → ℕ → Bool → PlainEntry → List PlainEntry
done_by tree budget past (SplitEntry number path token own children) = SplitEntry number path token own children ∷ []
done_by tree budget past (TaskEntry number path state) =
    done_with budget past (outcome_at tree path) (TaskEntry number path state) ∷ []

-- What an event makes of a board. One that names no task that fits changes nothing.
abbrev pub happens : SearchTree → ℕ → BoardState → Event → BoardState
happens tree budget board (stored.Take number) = with_entries board (handed_out number board.entries)
happens tree budget board (stored.Split number) =
    with_entries board (at_first (is_out number) (split_by tree (length board.entries)) board.entries)
happens tree budget board (stored.Finish number past) =
    with_entries board (at_first (is_out number) (done_by tree budget past) board.entries)
happens tree budget board stored.Short = record board { is_short = true }

abbrev pub replay_from : SearchTree → ℕ → BoardState → List Event → BoardState
replay_from tree budget board events = fold (happens tree budget) board events

-- the board that a history leaves
abbrev pub replay : SearchTree → ℕ → List Event → BoardState
replay tree budget events = replay_from tree budget board_start events

-- the path of the task that an event finishes
abbrev pub path_finished : BoardState → Event → List (List ℕ)
path_finished board (stored.Take number) = []
path_finished board (stored.Split number) = []
path_finished board (stored.Finish number past) = option_to_list (out_path number board.entries)
path_finished board stored.Short = []

-- the paths that a history finishes, in the order in which it finishes them
abbrev pub finished_paths : SearchTree → ℕ → BoardState → List Event → List (List ℕ)
finished_paths tree budget board [] = []
finished_paths tree budget board (e ∷ es) =
    path_finished board e ++ finished_paths tree budget (happens tree budget board e) es
