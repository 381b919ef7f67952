use Rattle.bin_search.proofs.Placing.{nothing_placed}
use Rattle.bin_search.proofs.tree.BinTree.explore_with.Goals as goal

pub enter-requires-clause-node : goal.enter-requires-clause-node
enter-requires-clause-node c =
    rw (c.new.ensures.items, c.new-2.ensures.items)
    (nothing_placed c.self.inside.instance.now c.len-limits.ensures.limits c.self.inside.bins)
