use Rattle.std.proofs.Common.{ℕ, ◌<◌}
use Rattle.packing_terms.specs.Packing.{dims}
use Rattle.packing_terms.specs.TooLarge.{IsNotLongerBelow}
use Rattle.box_instances.proofs.instance.Instance.sides_fit.Given as goal

abbrev pub invariant-loop-box_no : goal.invariant-loop-box_no
invariant-loop-box_no l = (v : ℕ) → v < l.box_no → IsNotLongerBelow l.self (dims l.self) v
