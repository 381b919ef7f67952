use Rattle.std.proofs.Common.{◌≡◌, take}
use Rattle.conservative_scales.proofs.search.copied.Given as goal

abbrev pub invariant-loop-f : goal.invariant-loop-f
invariant-loop-f l = record {
  items : l.tuple.items ≡ take l.f-index l.functions;
  capacity : l.tuple.capacity ≡ 4;
}
