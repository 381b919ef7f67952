use Rattle.std.proofs.Common.{ℕ, ◌+◌, ◌<◌, ◌≤◌, get_or}
use Rattle.proposed_answers.proofs.choice_testing.are_rising.Given as goal

abbrev pub invariant-loop-k : goal.invariant-loop-k
invariant-loop-k l = record {
  one : 1 ≤ l.k;
  rising : (j : ℕ) → j + 1 < l.k → get_or l.numbers j 0 < get_or l.numbers (j + 1) 0;
}
