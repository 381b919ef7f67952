use Rattle.std.proofs.Common.{ℕ, ◌<◌, ◌-◌}
use Rattle.packing_terms.specs.Packing.{dims}
use Rattle.packing_terms.specs.TooLarge.{IsNotLongerBelow}
use Rattle.strip_solver.proofs.wide.first_too_wide.Given as goal

abbrev pub invariant-loop-v : goal.invariant-loop-v
invariant-loop-v l = (u : ℕ) → u < l.v → IsNotLongerBelow l.instance (dims l.instance - 1) u
