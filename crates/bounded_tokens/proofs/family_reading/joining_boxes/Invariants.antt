use Rattle.bounded_tokens.proofs.Joining.{AreJoined}
use Rattle.bounded_tokens.proofs.family_reading.joining_boxes.Given as goal

abbrev pub invariant-loop-k : goal.invariant-loop-k
invariant-loop-k l = AreJoined l.line.held.words 2 l.k l.boxes.items
