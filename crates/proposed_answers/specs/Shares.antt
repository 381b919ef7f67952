-- What a level is worth of the budget of a run with proposals.
use Rattle.std.specs.Prelude.{ℕ, min, max, ◌/◌}

-- The share of each level: all of a budget up to 2,000 branchings, else 2,000, or a 500th of the budget
-- where that is more. A level is left open only where its described tree has more branchings than that.
abbrev pub level_share : ℕ → ℕ
level_share budget = max (min budget 2000) (budget / 500)
