use Rattle.std.proofs.Common.{◌<◌, ℕ}
use Rattle.packing_terms.specs.Exclusions.{excludes}
use Rattle.refutation_steps.specs.Empties.{IsLeft}
use Rattle.refutation_steps.proofs.empties.empty_in.Given as goal

abbrev pub invariant-loop-v : goal.invariant-loop-v
invariant-loop-v l = (k : ℕ) → k < l.v → (u : ℕ) → u < k → IsLeft (excludes l.state.trail) l.dim u k
