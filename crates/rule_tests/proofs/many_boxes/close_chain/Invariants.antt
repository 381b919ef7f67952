use Rattle.std.proofs.Common.{◌≡◌}
use Rattle.rule_tests.proofs.many_boxes.close_chain.Given as goal

abbrev pub invariant-loop-v : goal.invariant-loop-v
invariant-loop-v l = record {
  same : l.state ≡ record l.initial.state { trail = l.state.trail };
}
