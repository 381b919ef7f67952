-- What every board keeps, whatever happened and in whatever order.
use Rattle.std.specs.Prelude.{ℕ, ◌≡◌, ◌<◌, ◌⊎◌, List, [], ◌∷◌, ◌++◌, Some, Bool, true, false, ◌==◌, nat_lt}
use Rattle.std.specs.Prelude.{if◌then◌else◌, option_to_list}
use Rattle.tree_terms.specs.Trees.{SearchTree, Verdict, PlainOutcome, Decided, Past, count_of}
use Rattle.tree_terms.specs.Paths.{outcome_at, IsReachable}
use Rattle.work_share.specs.Board.{PlainEntry, SplitEntry, TaskEntry, PlainTaskState, Waits, Out, Done, entry_path}
use Rattle.work_share.specs.Board.{out_path}

-- x isn't in the list
abbrev pub IsNotIn : {A : Type 0} → A → List A → Type 0
IsNotIn x [] = Unit {0}
IsNotIn x (y ∷ ys) = (¬ (x ≡ y)) × IsNotIn x ys

-- no two of the list are equal
abbrev pub AreDistinct : {A : Type 0} → List A → Type 0
AreDistinct [] = Unit {0}
AreDistinct (x ∷ xs) = IsNotIn x xs × AreDistinct xs

-- each number is below n
abbrev pub AreBelow : ℕ → List ℕ → Type 0
AreBelow n [] = Unit {0}
AreBelow n (x ∷ xs) = (x < n) × AreBelow n xs

-- The path leads to the left of the other: where they part, it takes a child before the other's. So
-- neither is a prefix of the other.
abbrev pub leads_left : List ℕ → List ℕ → Bool
leads_left [] q = false
leads_left (i ∷ p) [] = false
leads_left (i ∷ p) (j ∷ q) = if i == j then leads_left p q else nat_lt i j

-- the path leads to the left of each of these
abbrev pub IsLeftOf : List ℕ → List (List ℕ) → Type 0
IsLeftOf p [] = Unit {0}
IsLeftOf p (q ∷ qs) = (leads_left p q ≡ true) × IsLeftOf p qs

-- each path leads to the left of those behind it
abbrev pub AreFromLeft : List (List ℕ) → Type 0
AreFromLeft [] = Unit {0}
AreFromLeft (p ∷ ps) = IsLeftOf p ps × AreFromLeft ps

-- the paths of the tasks, in order
abbrev pub task_paths : List PlainEntry → List (List ℕ)
task_paths [] = []
task_paths (e ∷ es) = option_to_list (entry_path e) ++ task_paths es

-- no path of a task that is out is a prefix of the path of another one
abbrev pub OutsAreApart : List PlainEntry → Type 0
OutsAreApart entries = (n m : ℕ) (p q rest : List ℕ) → ¬ (n ≡ m) → out_path n entries ≡ Some p
    → out_path m entries ≡ Some q → ¬ (q ≡ p ++ rest)

-- some task is out
abbrev pub HasOut : List PlainEntry → Type 0
HasOut entries = (n : ℕ) × (path : List ℕ) × (out_path n entries ≡ Some path)

-- the outcome is this verdict, or past where its count exceeds the budget
abbrev pub IsOutcomeOf : ℕ → Verdict → PlainOutcome → Type 0
IsOutcomeOf budget verdict outcome = (outcome ≡ Decided verdict) ⊎ ((outcome ≡ Past) × (budget < count_of verdict))

-- a done task has its node's outcome
abbrev pub IsStateRight : SearchTree → ℕ → List ℕ → PlainTaskState → Type 0
IsStateRight tree budget path Waits = Unit {0}
IsStateRight tree budget path Out = Unit {0}
IsStateRight tree budget path (Done outcome) = (verdict : Verdict) × (outcome_at tree path ≡ Some verdict)
    × IsOutcomeOf budget verdict outcome

-- each task's path may be reached, and each done task has its node's outcome, or past where the
-- count of that exceeds the budget
abbrev pub AreTasksRight : SearchTree → ℕ → List PlainEntry → Type 0
AreTasksRight tree budget [] = Unit {0}
AreTasksRight tree budget (SplitEntry number path token own children ∷ es) = AreTasksRight tree budget es
AreTasksRight tree budget (TaskEntry number path state ∷ es) =
    (IsReachable tree path × IsStateRight tree budget path state) × AreTasksRight tree budget es
