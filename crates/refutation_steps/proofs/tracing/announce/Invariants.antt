use Rattle.std.proofs.Common.{◌-◌, ◌≤◌, length}
use Rattle.refutation_steps.proofs.tracing.announce.Given as goal

abbrev pub invariant-loop-change : goal.invariant-loop-change
invariant-loop-change l = l.at ≤ length l.state.trail

abbrev pub decreases-loop-change : goal.decreases-loop-change
decreases-loop-change l = length l.state.trail - l.at
