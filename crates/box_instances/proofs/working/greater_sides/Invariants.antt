use Rattle.std.proofs.Common.{◌≡◌, ◌<◌, ◌≤◌, ℕ, length, get_or}
use Rattle.box_instances.proofs.working.greater_sides.Given as goal

abbrev pub invariant-loop-i : goal.invariant-loop-i
invariant-loop-i l = record {
  count : length l.row ≡ 4;
  first : (j : ℕ) → j < l.i → get_or l.first j 0 ≤ get_or l.row j 0;
  second : (j : ℕ) → j < l.i → get_or l.second j 0 ≤ get_or l.row j 0;
}
