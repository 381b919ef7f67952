use Rattle.std.proofs.Common.{◌≡◌, ◌++◌, map, take, length}
use Rattle.proof_tree.specs.Plain.{plain_token}
use Rattle.proof_tree.proofs.list.push_copies.Given as goal

abbrev pub invariant-loop-token : goal.invariant-loop-token
invariant-loop-token l = record {
  appended : map plain_token l.tokens.items
      ≡ map plain_token l.fn.tokens.items ++ map plain_token (take l.token-index l.more);
  front : take (length l.fn.tokens.items) l.tokens.items ≡ l.fn.tokens.items;
}
