use Rattle.std.proofs.Common.{◌≡◌, ◌<◌, ℕ}
use Rattle.packing_terms.specs.Packing.{written_side}
use Rattle.class_search.proofs.same.are_same_boxes.Given as goal

abbrev pub invariant-loop-dim : goal.invariant-loop-dim
invariant-loop-dim l = (i : ℕ) → i < l.dim → written_side l.first l.v i ≡ written_side l.second l.v i
