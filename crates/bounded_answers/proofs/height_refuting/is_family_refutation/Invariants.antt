use Rattle.std.proofs.Common.{◌≡◌, map, take}
use Rattle.bounded_tokens.specs.FamilyPlain.{plain_family}
use Rattle.bounded_answers.proofs.HeightFed.{fed_all}
use Rattle.bounded_answers.proofs.height_refuting.is_family_refutation.Given as goal

abbrev pub invariant-loop-k : goal.invariant-loop-k
invariant-loop-k l = l.refuter ≡ fed_all l.instance (map plain_family (take l.k l.tokens))
