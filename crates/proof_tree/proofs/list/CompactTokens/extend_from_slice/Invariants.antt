use Rattle.std.proofs.Common.{◌≡◌, ◌++◌, map, take}
use Rattle.proof_tree.specs.Plain.{plain_token}
use Rattle.proof_tree.proofs.list.CompactTokens.extend_from_slice.Given as goal

abbrev pub invariant-loop-token : goal.invariant-loop-token
invariant-loop-token l = l.self ≡ l.fn.self ++ map plain_token (take l.token-index l.tokens)
