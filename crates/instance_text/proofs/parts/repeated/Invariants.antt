use Rattle.std.proofs.Common.{◌≡◌, replicate}
use Rattle.instance_text.proofs.parts.repeated.Given as goal

abbrev pub invariant-loop-k : goal.invariant-loop-k
invariant-loop-k l = (l.numbers.items ≡ replicate l.k l.number) × (l.numbers.capacity ≡ 4)
