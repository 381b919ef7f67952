use Rattle.std.proofs.Common.{◌≡◌, ◌≤◌, ◌++◌, map, drop, length}
use Rattle.proof_tree.specs.Plain.{plain_token}
use Rattle.proof_tree.specs.Shorts.{listed}
use Rattle.proof_tree.proofs.list.tokens_of.Given as goal

abbrev pub invariant-loop-short : goal.invariant-loop-short
invariant-loop-short l = record {
  left : map plain_token l.tokens.items
      ++ listed (drop l.short-index l.shorts) (drop l.next (map plain_token l.wides))
      ≡ listed l.shorts (map plain_token l.wides);
  within : l.next ≤ length l.wides;
}
