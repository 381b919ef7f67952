use Rattle.std.proofs.Common.{◌≡◌}
use Rattle.tree_tests.proofs.runner.drive.Given as goal

abbrev pub invariant-loop-number : goal.invariant-loop-number
invariant-loop-number g l = record {
  same : l.board ≡ record l.initial.board { state = l.board.state };
  tree : l.board.tree ≡ l.tree;
  budget : l.board.budget ≡ l.budget;
}
