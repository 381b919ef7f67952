-- The tasks of a list that stand left of a path.
use Rattle.std.specs.Prelude.{ℕ, suc, List, [], ◌∷◌, if◌then◌else◌}
use Rattle.work_share.specs.Board.{PlainTask}
use Rattle.work_share.specs.Kept.{leads_left}

-- how many tasks, from the first on, have paths that lead to the left of this one
abbrev pub count_left : List ℕ → List PlainTask → ℕ
count_left path [] = 0
count_left path (t ∷ ts) = if leads_left t.path path then suc (count_left path ts) else 0
