-- What an outcome under a budget is worth.
use Rattle.packing_terms.specs.Goals.{FitsInBins}
use Rattle.packing_terms.specs.OuterRefutation.{Bins}
use Rattle.tree_terms.specs.Trees.{PlainOutcome, Decided, Past, Yes, No}
use Rattle.tree_terms.specs.OuterSearch.{IsBinRight}
use Rattle.bin_search.specs.Trees.{PlainBinTree}

-- a yes has a packing in the bins, and a no refutes the node with these bins
abbrev pub IsRight : PlainBinTree → Bins → PlainOutcome → Type 0
IsRight t bins (Decided v) = IsBinRight t.instance t.bins bins v
IsRight t bins Past = Unit {0}

-- a yes comes only where the instance fits in the bins, and a no only where it doesn't
abbrev pub Decides : PlainBinTree → PlainOutcome → Type 0
Decides t (Decided (Yes numbers count)) = FitsInBins t.instance t.bins
Decides t (Decided (No tokens count)) = ¬ FitsInBins t.instance t.bins
Decides t Past = Unit {0}
