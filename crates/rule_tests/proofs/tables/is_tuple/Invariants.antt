use Rattle.std.proofs.Common.{ℕ, ◌<◌}
use Rattle.packing_terms.specs.Packing.{container_side}
use Rattle.packing_terms.specs.Scales.{IsLegalScale, function_at}
use Rattle.rule_tests.proofs.tables.is_tuple.Given as goal

abbrev pub invariant-loop-dim : goal.invariant-loop-dim
invariant-loop-dim l = (i : ℕ) → i < l.dim → IsLegalScale (function_at l.tuple i) (container_side l.instance i)
