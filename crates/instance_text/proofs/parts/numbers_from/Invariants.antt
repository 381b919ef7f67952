use Rattle.std.proofs.Common.{◌≡◌, drop}
use Rattle.text_terms.proofs.Listed.{NumbersSoFar}
use Rattle.instance_text.proofs.parts.numbers_from.Given as goal

abbrev pub invariant-loop-k : goal.invariant-loop-k
invariant-loop-k l = NumbersSoFar l.low l.limits (drop 1 l.line.held.words) l.numbers.items l.k
    × (l.numbers.capacity ≡ 4)
