use Rattle.std.proofs.Common.{map}
use Rattle.box_instances.specs.Plain.{plain_box}
use Rattle.box_instances.proofs.MadeBoxes.{AreMade}
use Rattle.box_instances.proofs.making.make.Given as goal

abbrev pub invariant-loop-v : goal.invariant-loop-v
invariant-loop-v l = AreMade l.fn.number l.v l.draws.seed (map plain_box l.boxes.items)
