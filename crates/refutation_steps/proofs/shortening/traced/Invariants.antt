use Rattle.refutation_steps.specs.Traced.{IsTracked}
use Rattle.refutation_steps.proofs.shortening.traced.Given as goal

abbrev pub invariant-loop-token : goal.invariant-loop-token
invariant-loop-token l = IsTracked l.instance l.walk
