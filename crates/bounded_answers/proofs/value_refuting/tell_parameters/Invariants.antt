use Rattle.std.proofs.Common.{map, take}
use Rattle.bounded_tokens.specs.Plain.{plain_bounded}
use Rattle.answer_terms.specs.BoundedAnswers.{HaveParameters}
use Rattle.bounded_answers.proofs.value_refuting.tell_parameters.Given as goal

abbrev pub invariant-loop-k : goal.invariant-loop-k
invariant-loop-k l = HaveParameters (map plain_bounded (take l.k l.tokens))
