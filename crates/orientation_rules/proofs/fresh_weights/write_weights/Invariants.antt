use Rattle.std.proofs.Common.{◌≡◌, ◌<◌, ◌+◌, ℕ, length, [], slice_index, slice_index_or}
use Rattle.edge_state.specs.ChainWeights.{IsSameHistory, list_number, weights_in}
use Rattle.orientation_rules.proofs.fresh_weights.write_weights.Given as goal

abbrev pub invariant-loop-v : goal.invariant-loop-v
invariant-loop-v l = record {
  history : IsSameHistory l.fn.weights l.weights;
  written : (u : ℕ) → u < l.v → slice_index (weights_in l.weights.numbers l.fn.direction l.fn.dim) u ≡ slice_index l.from u;
  other : (list : ℕ) → (list ≡ list_number l.fn.direction l.fn.dim → ⊥)
      → slice_index_or l.weights.numbers list [] ≡ slice_index_or l.fn.weights.numbers list [];
  logged : length l.weights.log ≡ length l.fn.weights.log + l.v;
}
