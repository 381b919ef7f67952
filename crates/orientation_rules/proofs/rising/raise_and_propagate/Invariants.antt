use Rattle.std.proofs.Common.{◌≤◌, length, slice_index}
use Rattle.edge_state.specs.ChainWeights.{IsSameHistory, weights_in}
use Rattle.orientation_rules.specs.Pending.{AreRising}
use Rattle.orientation_rules.specs.Raises.{raises_left}
use Rattle.orientation_rules.proofs.rising.raise_and_propagate.Given as goal

abbrev pub invariant-loop-x : goal.invariant-loop-x
invariant-loop-x g l = record {
  history : IsSameHistory l.fn.weights l.weights;
  rising : AreRising l.instance l.state l.dim l.direction l.fn.weights.numbers l.weights.numbers l.rest l.risen;
  enough : l.weight ≤ slice_index (weights_in l.weights.numbers l.direction l.dim) l.v;
}

abbrev pub decreases-loop-x : goal.decreases-loop-x
decreases-loop-x g l = raises_left g.row.K (length l.weights.log) l.rest
