use Rattle.std.proofs.Common.{◌<◌, ℕ}
use Rattle.packing_terms.specs.Exclusions.{excludes}
use Rattle.refutation_steps.specs.Empties.{IsLeft}
use Rattle.refutation_steps.proofs.empties.empty_place.Given as goal

abbrev pub invariant-loop-dim : goal.invariant-loop-dim
invariant-loop-dim l = (k : ℕ) → k < l.dim → (v : ℕ) → v < l.state.boxes → (u : ℕ) → u < v
    → IsLeft (excludes l.state.trail) k u v
