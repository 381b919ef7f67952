use Rattle.std.proofs.Common.{◌≡◌}
use Rattle.refutation_tests.proofs.sets.checked_sets.Given as goal

abbrev pub invariant-loop : goal.invariant-loop
invariant-loop l = l.refuter.instance ≡ l.instance
