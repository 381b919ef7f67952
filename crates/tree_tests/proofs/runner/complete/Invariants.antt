use Rattle.std.proofs.Common.{◌≡◌}
use Rattle.tree_tests.proofs.runner.complete.Given as goal

abbrev pub invariant-loop : goal.invariant-loop
invariant-loop g l = record {
  same : l.board ≡ record l.initial.board { state = l.board.state };
  tree : l.board.tree ≡ l.tree;
  budget : l.board.budget ≡ l.budget;
}
