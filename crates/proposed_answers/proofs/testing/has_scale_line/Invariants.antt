use Rattle.std.proofs.Common.{◌≡◌, false, map, take}
use Rattle.proof_tree.specs.Plain.{plain_token}
use Rattle.proposed_answers.specs.Behind.{has_scale_line}
use Rattle.proposed_answers.proofs.testing.has_scale_line.Given as goal

abbrev pub invariant-loop-k : goal.invariant-loop-k
invariant-loop-k l = has_scale_line (map plain_token (take l.k l.tokens)) ≡ false
