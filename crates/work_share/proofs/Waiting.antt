-- The tasks that wait, and the events of tasks that are still to come, of entries behind others.
use Rattle.std.proofs.Common.{◌≡◌, ◌+◌, refl, sym, ap, ◌∙◌, arith, List, [], ◌∷◌, ◌++◌, if◌then◌else◌, option_to_list}
use Rattle.std.proofs.Common.{append_assoc}
use Rattle.work_share.specs.Board.{PlainEntry, PlainTask, waits, task_of}
use Rattle.work_share.specs.Boards.{waiting_tasks, owed}

-- what an entry adds to the tasks that wait
abbrev waiting_in : PlainEntry → List PlainTask
waiting_in e = if waits e then option_to_list (task_of e) else []

pub waiting_append : (xs ys : List PlainEntry) → waiting_tasks (xs ++ ys) ≡ waiting_tasks xs ++ waiting_tasks ys
waiting_append [] ys = refl
waiting_append (e ∷ xs) ys = ap (λ ts. waiting_in e ++ ts) (waiting_append xs ys)
    ∙ sym (append_assoc (waiting_in e) (waiting_tasks xs) (waiting_tasks ys))

pub owed_append : (xs ys : List PlainEntry) → owed (xs ++ ys) ≡ owed xs + owed ys
owed_append [] ys = omega arith
owed_append (e ∷ xs) ys = let r = owed_append xs ys in omega (arith, r)
