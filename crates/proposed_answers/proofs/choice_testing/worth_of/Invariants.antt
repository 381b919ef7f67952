use Rattle.std.proofs.Common.{◌≡◌, ◌*◌, ◌≤◌, ◌^◌, take}
use Rattle.packing_terms.specs.Goals.{worth}
use Rattle.proposed_answers.proofs.choice_testing.worth_of.Given as goal

abbrev pub invariant-loop-v : goal.invariant-loop-v
invariant-loop-v l = (l.worth ≡ worth l.instance (take l.v-index l.taken)) × (l.worth ≤ l.v-index * 2 ^ 64)
