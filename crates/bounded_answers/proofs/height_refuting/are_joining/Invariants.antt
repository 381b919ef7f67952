use Rattle.std.proofs.Common.{map, take}
use Rattle.bounded_tokens.specs.FamilyPlain.{plain_family}
use Rattle.answer_terms.specs.HeightAnswers.{AreJoining}
use Rattle.bounded_answers.proofs.height_refuting.are_joining.Given as goal

abbrev pub invariant-loop-k : goal.invariant-loop-k
invariant-loop-k l = AreJoining (map plain_family (take l.k l.tokens))
