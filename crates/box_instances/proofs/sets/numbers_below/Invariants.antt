use Rattle.std.proofs.Common.{◌≡◌, ◌≤◌, vec_capacity}
use Rattle.std.specs.List.{range_with_len}
use Rattle.box_instances.proofs.sets.numbers_below.Given as goal

abbrev pub invariant-loop-v : goal.invariant-loop-v
invariant-loop-v l = record {
  items : l.list.items ≡ range_with_len 0 l.v;
  room : l.fn.count ≤ vec_capacity l.list;
}
