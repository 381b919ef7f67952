use Rattle.box_instances.specs.Sets.{AreFirstSets}
use Rattle.box_instances.proofs.sets.first_sets.Given as goal

abbrev pub invariant-loop-last : goal.invariant-loop-last
invariant-loop-last l = AreFirstSets l.whole l.last l.sets.items
