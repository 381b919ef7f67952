use Rattle.std.proofs.Common.{◌<◌, ◌≤◌, ℕ, [], get_or}
use Rattle.box_instances.proofs.working.longest_sides.Given as goal

abbrev pub invariant-loop-v : goal.invariant-loop-v
invariant-loop-v l = (u i : ℕ) → u < l.v → i < 4 → get_or (get_or l.rows u []) i 0 ≤ get_or l.longest i 0
