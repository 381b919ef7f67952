use Rattle.std.proofs.Common.{◌≡◌, [], drop}
use Rattle.bin_search.specs.Lists.{lists_of}
use Rattle.bin_search.specs.Paths.{bins_along}
use Rattle.bin_search.proofs.path.bins_along.Given as goal

abbrev pub invariant-loop-k : goal.invariant-loop-k
invariant-loop-k l = bins_along [] l.order l.path ≡ bins_along (lists_of l.bins.items) (drop l.k l.order)
    (drop l.k l.path)
