use Rattle.std.proofs.Common.{◌≡◌}
use Rattle.refutation_check.specs.Nodes.{with_each}
use Rattle.refutation_check.proofs.node.exclude_each.Given as goal
use Rattle.edge_state.specs.Edges.{oldest}

abbrev pub invariant-loop-i : goal.invariant-loop-i
invariant-loop-i l = l.state ≡ record l.fn.state { trail = with_each (oldest l.i l.start) }
