use Rattle.std.proofs.Common.{◌≡◌, length}
use Rattle.proof_tree.proofs.TokenWords.{AreRead}
use Rattle.proof_tree.proofs.reading.tuple_from.Given as goal

abbrev pub invariant-loop : goal.invariant-loop
invariant-loop l = AreRead l.line.held.words l.first l.k l.tuple.items × (length l.tuple.items ≡ l.counter)
    × (l.tuple.capacity ≡ 4)
