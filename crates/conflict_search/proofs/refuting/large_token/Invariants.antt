use Rattle.std.proofs.Common.{ℕ, ◌<◌, ◌≤◌}
use Rattle.packing_terms.specs.Packing.{dims, side, container_side}
use Rattle.conflict_search.proofs.refuting.large_token.Given as goal

abbrev pub invariant-loop-v : goal.invariant-loop-v
invariant-loop-v l = (u i : ℕ) → u < l.v → i < dims l.instance → side l.instance u i ≤ container_side l.instance i
