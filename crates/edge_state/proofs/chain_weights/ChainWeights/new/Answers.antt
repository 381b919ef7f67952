use Rattle.std.proofs.Common.{ap, reverse, refl}
use Rattle.edge_state.proofs.Histories.{sized_new, copy_same}
use Rattle.edge_state.proofs.chain_weights.ChainWeights.new.Goals as goal

pub invariant_of-result : goal.invariant_of-result
invariant_of-result c =
    sized_new _ _ _ _ _ _ _ refl (c.in-Ok.ensures.items_if_clones_equal (λ y e. copy_same _ y e.whole))
    (c.in-Ok-vec.ensures.items_if_clones_equal (λ y e. copy_same _ y e.whole)) (ap reverse c.in-Ok-with_capacity.ensures.items)
    c.in-Ok-with_capacity.ensures.capacity c.in-Ok-with_capacity-2.ensures.capacity
