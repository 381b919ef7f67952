use Rattle.packing_terms.specs.TooLarge.{IsNotLongerBelow}
use Rattle.strip_solver.proofs.wide.wide_dim.Given as goal

abbrev pub invariant-loop-dim : goal.invariant-loop-dim
invariant-loop-dim l = IsNotLongerBelow l.instance l.dim l.v
