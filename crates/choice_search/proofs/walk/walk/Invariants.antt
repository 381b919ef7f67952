use Rattle.std.proofs.Common.{◌≡◌, ◌≤◌, ◌-◌, reverse}
use Rattle.choice_search.specs.Walks.{node_verdict, IsLeft}
use Rattle.choice_search.proofs.walk.walk.Given as goal

abbrev pub invariant-loop-node : goal.invariant-loop-node
invariant-loop-node l = record {
  left : IsLeft (record { instance = l.instance; goal = l.value; scales = l.fn.search.scales })
      (node_verdict (record { instance = l.instance; goal = l.value; scales = l.fn.search.scales }) l.fn.node l.own)
      l.tokens l.count l.node (reverse l.stack.items);
  within : l.count ≤ l.cap;
  same : l.search ≡ l.fn.search;
}

abbrev pub decreases-loop-node : goal.decreases-loop-node
decreases-loop-node l = l.cap - l.count
