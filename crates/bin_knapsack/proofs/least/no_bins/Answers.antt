use Rattle.std.proofs.Common.{refl}
use Rattle.packing_terms.specs.Packing.{box_count}
use Rattle.bin_knapsack.proofs.FirstCounts.{no_count}
use Rattle.bin_knapsack.proofs.least.no_bins.Goals as goal

pub unreachable-requires-in-Past : goal.unreachable-requires-in-Past
unreachable-requires-in-Past c =
    (rw (c.in_ok-tree.ensures, c.in-Past.is) at c.in_ok-tokens.ensures.enough) refl
    (no_count _ (box_count c.args.instance.now))
