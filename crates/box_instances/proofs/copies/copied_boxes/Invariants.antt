use Rattle.std.proofs.Common.{◌≡◌, map, take}
use Rattle.box_instances.specs.Plain.{plain_box}
use Rattle.box_instances.proofs.copies.copied_boxes.Given as goal

abbrev pub invariant-loop-v : goal.invariant-loop-v
invariant-loop-v l = map plain_box l.copies.items ≡ map plain_box (take l.v l.boxes)
