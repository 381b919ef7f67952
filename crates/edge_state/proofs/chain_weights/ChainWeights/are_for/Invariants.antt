use Rattle.std.proofs.Common.{◌≡◌, ◌<◌, ℕ, [], slice_index, slice_index_or}
use Rattle.packing_terms.specs.Packing.{dims, side}
use Rattle.edge_state.proofs.chain_weights.ChainWeights.are_for.Given as goal

abbrev pub invariant-loop-v : goal.invariant-loop-v
invariant-loop-v l = (u i : ℕ) → u < l.v → i < dims l.instance
    → slice_index (slice_index_or l.self.sides u []) i ≡ side l.instance u i
