use Rattle.std.proofs.Common.{◌<◌, ℕ}
use Rattle.class_search.specs.Same.{AreSameBoxes}
use Rattle.class_search.proofs.same.are_same_instances.Given as goal

abbrev pub invariant-loop-v : goal.invariant-loop-v
invariant-loop-v l = (u : ℕ) → u < l.v → AreSameBoxes l.first l.second u
