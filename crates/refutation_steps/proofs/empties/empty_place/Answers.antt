use Rattle.std.proofs.Common.{◌<◌, ℕ}
use Rattle.packing_terms.specs.Exclusions.{excludes}
use Rattle.refutation_steps.specs.Empties.{IsLeft}
use Rattle.refutation_steps.proofs.Emptied.{below_next}
use Rattle.refutation_steps.proofs.empties.empty_place.Goals as goal

pub loop-dim-preserved : goal.loop-dim-preserved
loop-dim-preserved c = below_next (λ k. (v : ℕ) → v < c.args.state.now.boxes → (u : ℕ) → u < v
    → IsLeft (excludes c.args.state.now.trail) k u v) c.loop-dim.dim c.loop-dim.invariant c.in_default.ensures
