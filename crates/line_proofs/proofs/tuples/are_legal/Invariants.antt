use Rattle.std.proofs.Common.{◌≡◌, ◌<◌, ℕ, true}
use Rattle.packing_terms.specs.Packing.{container_side}
use Rattle.packing_terms.specs.Scales.{function_at}
use Rattle.verdict_terms.specs.Judging.{is_legal}
use Rattle.line_proofs.proofs.tuples.are_legal.Given as goal

abbrev pub invariant-loop-dim : goal.invariant-loop-dim
invariant-loop-dim l = (i : ℕ) → i < l.dim → is_legal (container_side l.instance i) (function_at l.tuple i) ≡ true
