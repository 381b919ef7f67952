-- What a worker finds of a task, and what handing it in makes of the board.
use Rattle.std.specs.Prelude.{ℕ, ◌+◌, ◌-◌, ◌*◌, ◌≤◌, ◌<◌, ◌≡◌, ◌⊎◌, List, length, min, IfSome, Some, Result, Ok, Err}
use Rattle.tree_terms.specs.Trees.{SearchTree, node_at, outcome, under_budget, count_of}
use Rattle.tree_terms.specs.Paths.{node_view, Leaf, Splits}
use Rattle.work_share.specs.Board.{BoardState, PlainTask, out_path}
use Rattle.work_share.specs.Steps.{BoardStep, AskSplit, AskFinish, NoteShort, IsDone}
use Rattle.box_instances.specs.declared.NoMemory.{NoMemory}
use Rattle.work_share.specs.Outcomes.{plain_outcome}
use Rattle.proof_tree.specs.Plain.{plain_token}
use Rattle.work_share.specs.Tasks.{is_past}
use Rattle.work_share.specs.declared.exploring.Found.{Found}
use Rattle.work_share.specs.declared.exploring.Found.TheVariants.{Whole, Pieces}

-- The cap under which a task of this depth is explored first: 1,024 at the root, 8 more with each
-- step down, and the square of the steps below depth 512, but never more than the budget.
abbrev pub first_cap : ℕ → ℕ → ℕ
first_cap budget depth = min budget (1024 + 8 * depth + (depth - 512) * (depth - 512))

-- the count of the node exceeds the first cap, which is below the budget
abbrev pub ExceedsCap : ℕ → ℕ → SearchTree → Type 0
ExceedsCap budget depth node = (first_cap budget depth < budget) × (first_cap budget depth < count_of (outcome node))

-- no split is called for: the first cap is the budget, or the count is within the first cap, or the
-- node is reported as a leaf
abbrev pub StaysWhole : ℕ → ℕ → SearchTree → Type 0
StaysWhole budget depth node =
    (budget ≤ first_cap budget depth) ⊎ ((count_of (outcome node) ≤ first_cap budget depth) ⊎ (node_view node ≡ Leaf))

-- What was found of a node is right: its outcome under the budget exactly where no split is called
-- for, and else its split.
abbrev pub IsFoundOf : ℕ → ℕ → SearchTree → Found → Type 0
IsFoundOf budget depth node (Whole found) = (plain_outcome found ≡ under_budget budget (outcome node))
    × StaysWhole budget depth node
IsFoundOf budget depth node (Pieces token own children) =
    (node_view node ≡ Splits (plain_token token) own children) × ExceedsCap budget depth node

-- the same of the node at a path, at the depth that is the length of the path
abbrev pub IsFoundAt : SearchTree → ℕ → List ℕ → Found → Type 0
IsFoundAt tree budget path found = IfSome (node_at (Some tree) path) (λ node. IsFoundOf budget (length path) node found)

-- What was found of the task of this number is put into the board in one step. In the place of a
-- split, the step may be the note that there was no memory for it.
abbrev pub PutsFound : SearchTree → ℕ → BoardState → ℕ → Found → BoardState → Type 0
PutsFound tree budget old number (Whole found) new =
    BoardStep tree budget old (AskFinish number (is_past (plain_outcome found))) IsDone new
PutsFound tree budget old number (Pieces token own children) new =
    BoardStep tree budget old (AskSplit number) IsDone new ⊎ BoardStep tree budget old NoteShort IsDone new

-- A worker submits what it found of a task, or that it was short of memory. What it found is put
-- in exactly where the task is out, and else the board stays as it was.
abbrev pub HandsIn : SearchTree → ℕ → BoardState → PlainTask → Result Found NoMemory → BoardState → Type 0
HandsIn tree budget old task (Err e) new = BoardStep tree budget old NoteShort IsDone new
HandsIn tree budget old task (Ok found) new =
    ((out_path task.number old.entries ≡ Some task.path) × PutsFound tree budget old task.number found new)
    ⊎ ((¬ (out_path task.number old.entries ≡ Some task.path)) × (new ≡ old))
