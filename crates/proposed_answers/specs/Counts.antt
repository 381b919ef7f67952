-- Bounds of the least number of bins, and what is answered for bins by proposals first.
use Rattle.std.specs.Prelude.{ℕ, suc, pred, ◌<◌, ◌≤◌, ◌≡◌, Bool, List}
use Rattle.packing_terms.specs.Packing.{PlainInstance, box_count}
use Rattle.packing_terms.specs.Goals.{HasTooLargeBox}
use Rattle.packing_terms.specs.OuterRefutation.{IsBinRefutation}
use Rattle.packing_terms.specs.TooLarge.{IsFirstTooLarge}
use Rattle.packing_terms.specs.Tokens.{PlainToken}
use Rattle.tree_terms.specs.Trees.{outcome, count_of}
use Rattle.tree_terms.specs.OuterTrees.{bin_tree}
use Rattle.tree_terms.specs.OuterSearch.{AreBinNumbers}
use Rattle.tree_terms.specs.Levels.{PlainLevel}
use Rattle.text_terms.specs.declared.settings.Settings.{Settings}
use Rattle.level_search.specs.Bounds.{PlainBounds, IsRightAnswer, AreBounds}
use Rattle.bin_knapsack.specs.declared.bins.Bins.{Bins}
use Rattle.bin_knapsack.specs.declared.bins.Bins.TheVariants.{Least, Between, NoneFits}

-- the count of branchings of the bin tree for `k` bins
abbrev pub bins_count : PlainInstance → Bool → ℕ → ℕ
bins_count instance scales k = count_of (outcome (bin_tree instance k scales))

-- what is known of a number of bins that was left undecided: that its tree has more branchings than
-- the budget
abbrev pub IsPastCount : PlainInstance → Settings → ℕ → Type 0
IsPastCount instance settings k = settings.budget < bins_count instance settings.scales k

-- the answer for a number of bins
abbrev pub IsBinsAnswer : PlainInstance → Settings → ℕ → PlainLevel → Type 0
IsBinsAnswer instance settings =
    IsRightAnswer (AreBinNumbers instance) (IsBinRefutation instance) (IsPastCount instance settings)

-- bounds of the least number of bins
abbrev pub AreBinBounds : PlainInstance → Settings → PlainBounds → Type 0
AreBinBounds instance settings =
    AreBounds (AreBinNumbers instance) (IsBinRefutation instance) (IsPastCount instance settings) (box_count instance)

-- bounds like these, without a claim about what was left undecided
abbrev pub AreFirstBounds : PlainInstance → PlainBounds → Type 0
AreFirstBounds instance = AreBounds (AreBinNumbers instance) (IsBinRefutation instance) (λ k. Unit {0})
    (box_count instance)

-- the answer states these bounds
pub record TellsLeast (b : PlainBounds) (bins : ℕ) (numbers : List ℕ) (tokens : List PlainToken) : Type 0 where
  pub beside : suc b.refuted ≡ b.placed
  pub bins_are : bins ≡ b.placed
  pub numbers_are : numbers ≡ b.numbers
  pub tokens_are : tokens ≡ b.tokens

pub record TellsBetween (b : PlainBounds) (refuted : ℕ) (tokens : List PlainToken) (bins : ℕ) (numbers : List ℕ) :
    Type 0 where
  pub apart : suc b.refuted < b.placed
  pub refuted_is : refuted ≡ b.refuted
  pub tokens_are : tokens ≡ b.tokens
  pub bins_are : bins ≡ b.placed
  pub numbers_are : numbers ≡ b.numbers

abbrev pub TellsBins : PlainBounds → Bins → Type 0
TellsBins b (Least bins numbers tokens) = TellsLeast b bins numbers.items tokens
TellsBins b (Between refuted tokens bins numbers) =
    TellsBetween b refuted tokens bins numbers.items
TellsBins b (NoneFits v i) = ⊥

-- `NoneFits` exactly where a box is too large, with the first one
abbrev pub AreNamedBins : PlainInstance → Bins → Type 0
AreNamedBins instance (Least bins numbers tokens) = ¬ HasTooLargeBox instance
AreNamedBins instance (Between refuted tokens bins numbers) = ¬ HasTooLargeBox instance
AreNamedBins instance (NoneFits v i) = IsFirstTooLarge instance v i

-- there is a bin, and there are at most as many as boxes
abbrev pub AreLimitedBins : PlainInstance → Bins → Type 0
AreLimitedBins instance (Least bins numbers tokens) = (1 ≤ bins) × (bins ≤ box_count instance)
AreLimitedBins instance (Between refuted tokens bins numbers) = (1 ≤ bins) × (bins ≤ box_count instance)
AreLimitedBins instance (NoneFits v i) = Unit {0}

-- `Between` only where the bin trees of the number above the refuted one and of the number below the
-- placed one have more branchings than the budget
abbrev pub AreNeighboursPastBudget : PlainInstance → ℕ → Bool → Bins → Type 0
AreNeighboursPastBudget instance budget scales (Least bins numbers tokens) = Unit {0}
AreNeighboursPastBudget instance budget scales (Between refuted tokens bins numbers) =
    (budget < bins_count instance scales (suc refuted)) × (budget < bins_count instance scales (pred bins))
AreNeighboursPastBudget instance budget scales (NoneFits v i) = Unit {0}
