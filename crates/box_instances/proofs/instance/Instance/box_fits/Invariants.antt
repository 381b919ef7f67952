use Rattle.packing_terms.specs.TooLarge.{IsNotLongerBelow}
use Rattle.box_instances.proofs.instance.Instance.box_fits.Given as goal

abbrev pub invariant-loop-dim : goal.invariant-loop-dim
invariant-loop-dim l = IsNotLongerBelow l.self l.dim l.box_no
