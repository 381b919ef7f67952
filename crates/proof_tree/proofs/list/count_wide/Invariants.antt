use Rattle.std.proofs.Common.{◌≡◌, ◌≤◌, take}
use Rattle.proof_tree.specs.Shorts.{wide_count}
use Rattle.proof_tree.proofs.list.count_wide.Given as goal

abbrev pub invariant-loop-short : goal.invariant-loop-short
invariant-loop-short l = record {
  counted : l.count ≡ wide_count (take l.short-index l.shorts);
  few : l.count ≤ l.short-index;
}
