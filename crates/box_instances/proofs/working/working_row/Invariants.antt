use Rattle.std.proofs.Common.{◌≡◌, ◌+◌, ◌<◌, ℕ, length, get_or}
use Rattle.box_instances.proofs.working.working_row.Given as goal

abbrev pub invariant-loop-i : goal.invariant-loop-i
invariant-loop-i l = (length l.row ≡ 4)
    × ((j : ℕ) → j < l.i → get_or l.row j 0 ≡ get_or l.sides j 0 + get_or l.kerf j 0)
