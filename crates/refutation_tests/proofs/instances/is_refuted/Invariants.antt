use Rattle.std.proofs.Common.{◌≡◌}
use Rattle.refutation_tests.proofs.instances.is_refuted.Given as goal

abbrev pub invariant-loop-at : goal.invariant-loop-at
invariant-loop-at l = l.refuter.instance ≡ l.fn.refuter.instance
