-- Where the boxes of each bin are a packing, each box lies within its container, and the boxes of
-- one container are disjoint.
use Rattle.std.proofs.Common.{ℕ, arith}
use Rattle.packing_terms.specs.Packing.{PlainInstance}
use Rattle.packing_terms.specs.Goals.{FitsInBins}
use Rattle.packing_terms.proofs.InBins.{inside, disjoint}
use Rattle.packing_terms.specs.Containers.{FitsIn}

pub bins_share : (instance : PlainInstance) (k : ℕ) → FitsInBins instance k → FitsIn instance k
bins_share instance k (bins, places, p) = (
  bins,
  places,
  record {
    numbers = λ v l. (let c = p.count in p.numbers v 0 (omega (arith, c, l)));
    inside = inside instance k bins places p;
    disjoint = disjoint instance k bins places p;
  },
)
