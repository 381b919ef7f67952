use Rattle.std.proofs.Common.{◌≡◌, ◌≤◌, ◌-◌, ◌+◌, ◌*◌, drop, map, reverse, length}
use Rattle.packing_terms.specs.Rank.{ranked}
use Rattle.tree_terms.specs.Trees.{outcome}
use Rattle.tree_terms.specs.OuterTrees.{bin_node}
use Rattle.bin_search.specs.Lists.{lists_of}
use Rattle.bin_search.specs.Nodes.{plain_placed, plain_change, nodes_above}
use Rattle.bin_search.specs.Walks.{IsLeft}
use Rattle.bin_search.proofs.walk.walk.Given as goal

abbrev pub invariant-loop-node : goal.invariant-loop-node
invariant-loop-node l = record {
  left : IsLeft (record { instance = l.instance; bins = l.most; scales = l.fn.search.scales })
      (outcome (bin_node l.instance l.fn.search.scales l.most (drop l.fn.node.placed (ranked l.instance))
      (lists_of l.fn.node.bins.items) (lists_of l.fn.node.answers.items) l.own))
      l.tokens l.count (plain_placed l.node)
      (nodes_above (plain_placed l.node) (map plain_change (reverse l.stack.items)));
  within : l.count ≤ l.cap;
  same : l.search ≡ l.fn.search;
}

abbrev pub decreases-loop-node : goal.decreases-loop-node
decreases-loop-node l = 2 * (l.cap - l.count) + length l.stack.items
