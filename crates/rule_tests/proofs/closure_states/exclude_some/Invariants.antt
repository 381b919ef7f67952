use Rattle.std.proofs.Common.{◌≡◌}
use Rattle.rule_tests.proofs.closure_states.exclude_some.Given as goal

abbrev pub invariant-loop : goal.invariant-loop
invariant-loop l = record {
  same : l.state ≡ record l.initial.state { trail = l.state.trail };
}
