use Rattle.std.proofs.Common.{◌≡◌, map, take}
use Rattle.proof_tree.specs.Plain.{plain_token}
use Rattle.proposed_answers.proofs.ChoiceFed.{fed_all}
use Rattle.proposed_answers.proofs.refuting.is_value_refutation.Given as goal

abbrev pub invariant-loop-k : goal.invariant-loop-k
invariant-loop-k l = l.refuter ≡ fed_all l.instance l.goal (map plain_token (take l.k l.tokens))
