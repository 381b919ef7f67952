use Rattle.std.proofs.Common.{◌≡◌}
use Rattle.std.specs.List.{flat_map}
use Rattle.packing_terms.specs.Packing.{dims}
use Rattle.packing_terms.specs.Sums.{below}
use Rattle.bin_knapsack.specs.Alone.{alone}
use Rattle.bin_knapsack.proofs.spread.one_box_per_bin.Given as goal

abbrev pub invariant-loop-v : goal.invariant-loop-v
invariant-loop-v l = l.numbers.items ≡ flat_map (alone (dims l.instance)) (below l.v)
