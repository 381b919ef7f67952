use Rattle.std.proofs.Common.{◌≡◌, map, take}
use Rattle.bounded_tokens.specs.Plain.{plain_bounded}
use Rattle.bounded_answers.proofs.ValueFed.{fed_all}
use Rattle.bounded_answers.proofs.value_refuting.is_bounded_refutation.Given as goal

abbrev pub invariant-loop-k : goal.invariant-loop-k
invariant-loop-k l = l.refuter ≡ fed_all l.instance l.goal (map plain_bounded (take l.k l.tokens))
