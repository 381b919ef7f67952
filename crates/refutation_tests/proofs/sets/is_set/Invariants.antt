use Rattle.std.proofs.Common.{ℕ, ◌+◌, ◌<◌, ◌≤◌, get_or}
use Rattle.refutation_tests.proofs.sets.is_set.Given as goal

abbrev pub invariant-loop-at : goal.invariant-loop-at
invariant-loop-at l = record {
  one : 1 ≤ l.at;
  below : (k : ℕ) → k < l.at → get_or l.keep k 0 < l.limit;
  rising : (k : ℕ) → k + 1 < l.at → get_or l.keep k 0 < get_or l.keep (k + 1) 0;
}
