-- What is answered for bins, and what it says.
use Rattle.std.specs.Prelude.{ℕ, ◌-◌, ◌<◌, ◌≤◌, ◌≡◌, Bool, true, false, List}
use Rattle.packing_terms.specs.Packing.{PlainInstance}
use Rattle.packing_terms.specs.Goals.{FitsInBins, IsLeastBins, HasTooLargeBox}
use Rattle.packing_terms.specs.TooLarge.{IsFirstTooLarge}
use Rattle.packing_terms.specs.OuterRefutation.{IsBinRefutation}
use Rattle.packing_terms.specs.Tokens.{PlainToken}
use Rattle.tree_terms.specs.OuterSearch.{AreBinNumbers}
use Rattle.tree_terms.specs.Levels.{PlainReached, bin_run}
use Rattle.tree_terms.specs.RunEnds.{HasBinCountPastBudget}
use Rattle.bin_knapsack.specs.declared.bins.Bins.{Bins}
use Rattle.bin_knapsack.specs.declared.bins.Bins.TheVariants.{Least, Between, NoneFits}

-- the answer states where a run of numbers of bins ended
abbrev pub Tells : PlainReached → Bins → Type 0
Tells r (Least bins numbers tokens) =
    r ≡ record {
      refuted = bins - 1;
      tokens = tokens;
      placed = bins;
      numbers = numbers.items;
      spent = false;
    }
Tells r (Between refuted tokens bins numbers) =
    r ≡ record {
      refuted = refuted;
      tokens = tokens;
      placed = bins;
      numbers = numbers.items;
      spent = true;
    }
Tells r (NoneFits v i) = ⊥

-- The answer is that of the definition: the first box that is too large, or, where none is, where
-- the run of numbers of bins ended.
abbrev pub IsAnswer : PlainInstance → ℕ → Bool → Bins → Type 0
IsAnswer instance budget scales (NoneFits v i) = IsFirstTooLarge instance v i
IsAnswer instance budget scales (Least bins numbers tokens) =
    (¬ HasTooLargeBox instance) × Tells (bin_run instance budget scales) (Least bins numbers tokens)
IsAnswer instance budget scales (Between refuted tokens bins numbers) =
    (¬ HasTooLargeBox instance) × Tells (bin_run instance budget scales) (Between refuted tokens bins numbers)

-- the least number of bins, with both certificates
pub record IsCertifiedLeast (instance : PlainInstance) (bins : ℕ) (numbers : List ℕ) (tokens : List PlainToken) :
    Type 0 where
  pub least : IsLeastBins instance bins
  pub packed : AreBinNumbers instance bins numbers
  pub refuted : IsBinRefutation instance (bins - 1) tokens

-- the boxes don't fit in `refuted` bins or fewer, and they fit in `bins` bins, with both
-- certificates
pub record IsCertifiedBetween (instance : PlainInstance) (refuted : ℕ) (tokens : List PlainToken) (bins : ℕ)
    (numbers : List ℕ) : Type 0 where
  pub order : refuted < bins
  pub none_fits : (k : ℕ) → k ≤ refuted → ¬ FitsInBins instance k
  pub packed : AreBinNumbers instance bins numbers
  pub refutes : IsBinRefutation instance refuted tokens

-- what the answer says is true
abbrev pub AreTrueBins : PlainInstance → Bins → Type 0
AreTrueBins instance (Least bins numbers tokens) =
    IsCertifiedLeast instance bins numbers.items tokens
AreTrueBins instance (Between refuted tokens bins numbers) =
    IsCertifiedBetween instance refuted tokens bins numbers.items
AreTrueBins instance (NoneFits v i) = (k : ℕ) → ¬ FitsInBins instance k

-- `Between` exactly where some number of bins on the run has more branchings than the budget
abbrev pub IsSpentExactly : PlainInstance → ℕ → Bool → Bins → Type 0
IsSpentExactly instance budget scales (Least bins numbers tokens) = ¬ HasBinCountPastBudget instance budget scales
IsSpentExactly instance budget scales (Between refuted tokens bins numbers) = HasBinCountPastBudget instance budget scales
IsSpentExactly instance budget scales (NoneFits v i) = Unit {0}

-- the answer isn't `Between`
abbrev pub IsFinal : Bins → Type 0
IsFinal (Least bins numbers tokens) = Unit {0}
IsFinal (Between refuted tokens bins numbers) = ⊥
IsFinal (NoneFits v i) = Unit {0}
