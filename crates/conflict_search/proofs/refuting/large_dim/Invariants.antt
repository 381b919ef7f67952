use Rattle.std.proofs.Common.{ℕ, ◌<◌, ◌≤◌}
use Rattle.packing_terms.specs.Packing.{side, container_side}
use Rattle.conflict_search.proofs.refuting.large_dim.Given as goal

abbrev pub invariant-loop-dim : goal.invariant-loop-dim
invariant-loop-dim l = (i : ℕ) → i < l.dim → side l.instance l.v i ≤ container_side l.instance i
