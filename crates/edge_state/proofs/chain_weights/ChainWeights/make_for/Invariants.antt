use Rattle.std.proofs.Common.{◌≡◌, ◌<◌, ℕ, [], slice_index, slice_index_or, reverse}
use Rattle.std.specs.Prelude.{vec_capacity}
use Rattle.packing_terms.specs.Packing.{dims, side, container_side}
use Rattle.edge_state.specs.ChainWeights.{AreSized}
use Rattle.edge_state.proofs.chain_weights.ChainWeights.make_for.Given as goal

abbrev pub invariant-loop-v : goal.invariant-loop-v
invariant-loop-v l = record {
  sized : AreSized (record {
    limits = l.self-inside.limits;
    sides = l.self-inside.sides.items;
    numbers = l.self-inside.numbers.items;
    log = reverse l.self-inside.log.items;
    ends = reverse l.self-inside.ends.items;
  }) (vec_capacity l.self-inside.log) (vec_capacity l.self-inside.ends);
  ends : reverse l.self-inside.ends.items ≡ [];
  limits : (i : ℕ) → i < dims l.instance → slice_index l.self-inside.limits i ≡ container_side l.instance i;
  sides : (u i : ℕ) → u < l.v → i < dims l.instance
      → slice_index (slice_index_or l.self-inside.sides.items u []) i ≡ side l.instance u i;
}
