use Rattle.edge_state.proofs.Joined.{AreJoined}
use Rattle.edge_state.proofs.bit_row.BitRow.is_empty.Given as goal

abbrev pub invariant-loop-i : goal.invariant-loop-i
invariant-loop-i g l = AreJoined l.all l.self-inside.words l.i
