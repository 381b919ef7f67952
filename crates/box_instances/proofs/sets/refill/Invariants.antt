use Rattle.std.proofs.Common.{◌≡◌, take, vec_capacity}
use Rattle.box_instances.proofs.sets.refill.Given as goal

abbrev pub invariant-loop-i : goal.invariant-loop-i
invariant-loop-i l = record {
  items : l.list.items ≡ take l.i l.numbers;
  same : vec_capacity l.list ≡ vec_capacity l.fn.list;
}
