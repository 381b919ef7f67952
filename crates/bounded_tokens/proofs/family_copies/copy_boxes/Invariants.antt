use Rattle.std.proofs.Common.{◌≡◌, take}
use Rattle.bounded_tokens.proofs.family_copies.copy_boxes.Given as goal

abbrev pub invariant-loop-k : goal.invariant-loop-k
invariant-loop-k l = l.copy.items ≡ take l.k l.boxes.items
