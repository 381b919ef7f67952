use Rattle.std.proofs.Common.{◌<◌, ℕ}
use Rattle.packing_terms.specs.Exclusions.{excludes}
use Rattle.refutation_steps.specs.Empties.{IsLeft}
use Rattle.refutation_steps.proofs.Emptied.{below_next}
use Rattle.refutation_steps.proofs.empties.empty_in.Goals as goal

pub loop-v-preserved : goal.loop-v-preserved
loop-v-preserved c = below_next (λ k. (u : ℕ) → u < k → IsLeft (excludes c.args.state.now.trail) c.args.dim u k)
    c.loop-v.v c.loop-v.invariant c.in_default.ensures
