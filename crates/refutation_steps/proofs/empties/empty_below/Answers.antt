use Rattle.packing_terms.specs.Exclusions.{excludes}
use Rattle.refutation_steps.specs.Empties.{IsLeft}
use Rattle.refutation_steps.proofs.Emptied.{below_next}
use Rattle.refutation_steps.proofs.empties.empty_below.Goals as goal

pub loop-u-preserved : goal.loop-u-preserved
loop-u-preserved c = below_next (λ k. IsLeft (excludes c.args.state.now.trail) c.args.dim k c.args.v) c.loop-u.u
    c.loop-u.invariant c.if-is_empty_at.ensures
