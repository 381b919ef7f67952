use Rattle.std.proofs.Common.{◌≡◌, ◌*◌, ◌≤◌, take}
use Rattle.packing_terms.specs.Goals.{worth}
use Rattle.choice_search.proofs.node.worth_of.Given as goal

abbrev pub invariant-loop-v : goal.invariant-loop-v
invariant-loop-v l = record {
  sum : l.sum ≡ worth l.instance (take l.v-index l.keep);
  small : l.sum ≤ l.v-index * 1000000000;
}
