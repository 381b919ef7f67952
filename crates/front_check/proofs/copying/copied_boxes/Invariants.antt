use Rattle.std.proofs.Common.{◌≡◌, map, take}
use Rattle.box_instances.specs.Plain.{plain_box}
use Rattle.front_check.proofs.copying.copied_boxes.Given as goal

abbrev pub invariant-loop-v : goal.invariant-loop-v
invariant-loop-v l = map plain_box l.boxes.items ≡ take l.v l.instance.boxes
