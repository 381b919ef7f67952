-- What a document says of its instance, and when that is true.
use Rattle.std.specs.Prelude.{ℕ, ◌+◌, ◌*◌, ◌<◌, List, [], ◌∷◌, codes}
use Rattle.std.specs.Fmt.{decimal}
use Rattle.packing_terms.specs.Packing.{PlainInstance, Fits}
use Rattle.packing_terms.specs.Limits.{max_boxes}
use Rattle.packing_terms.specs.Goals.{with_last_side, FitsInBins, ReachesValue, IsLeastHeight, IsLeastBins}
use Rattle.packing_terms.specs.Goals.{IsGreatestValue}
use Rattle.text_terms.specs.declared.claim.SolvingJob.{SolvingJob}
use Rattle.text_terms.specs.declared.claim.SolvingJob.TheVariants.{Fit, Strip, Bins, Knapsack}
use Rattle.text_terms.specs.declared.claim.Claim.{Claim}
use Rattle.text_terms.specs.declared.claim.Claim.TheVariants.{Fitting, NotFitting, LeastHeight, HeightBetween}
use Rattle.text_terms.specs.declared.claim.Claim.TheVariants.{NoHeight, LeastBins, BinsBetween, NoBins}
use Rattle.text_terms.specs.declared.claim.Claim.TheVariants.{GreatestValue, ValueBetween}

-- the most that a value of a result line is: one more than all boxes may be worth
abbrev pub max_worth : ℕ
max_worth = 1000000000 * max_boxes + 1

-- the job of a claim
abbrev pub job_of : Claim → SolvingJob
job_of Fitting = Fit
job_of NotFitting = Fit
job_of (LeastHeight h) = Strip
job_of (HeightBetween a b) = Strip
job_of NoHeight = Strip
job_of (LeastBins k) = Bins
job_of (BinsBetween a b) = Bins
job_of NoBins = Bins
job_of (GreatestValue v) = Knapsack
job_of (ValueBetween a b) = Knapsack

abbrev pub job_word : SolvingJob → List ℕ
job_word Fit = codes "fit"
job_word Strip = codes "strip"
job_word Bins = codes "bins"
job_word Knapsack = codes "knapsack"

-- the words of the result line behind `result`, without leading zeros
abbrev pub result_words : Claim → List (List ℕ)
result_words Fitting = codes "yes" ∷ []
result_words NotFitting = codes "no" ∷ []
result_words (LeastHeight h) = codes "least" ∷ decimal h ∷ []
result_words (HeightBetween a b) = codes "between" ∷ decimal a ∷ decimal b ∷ []
result_words NoHeight = codes "none" ∷ []
result_words (LeastBins k) = codes "least" ∷ decimal k ∷ []
result_words (BinsBetween a b) = codes "between" ∷ decimal a ∷ decimal b ∷ []
result_words NoBins = codes "none" ∷ []
result_words (GreatestValue v) = codes "greatest" ∷ decimal v ∷ []
result_words (ValueBetween a b) = codes "between" ∷ decimal a ∷ decimal b ∷ []

-- the least height lies above the one number and is at most the other: the instance fits at the
-- other, and only at heights above the one
pub record IsHeightBetween (instance : PlainInstance) (a b : ℕ) : Type 0 where
  pub above : (h : ℕ) → Fits (with_last_side instance h) → a < h
  pub fits : Fits (with_last_side instance b)

-- the least number of bins lies above the one number and is at most the other
pub record IsBinsBetween (instance : PlainInstance) (a b : ℕ) : Type 0 where
  pub above : (k : ℕ) → FitsInBins instance k → a < k
  pub fits : FitsInBins instance b

-- the greatest value is at least the one number and below the other
pub record IsValueBetween (instance : PlainInstance) (a b : ℕ) : Type 0 where
  pub reached : ReachesValue instance a
  pub below : (t : ℕ) → ReachesValue instance t → t < b

-- the claim is true of the instance
abbrev pub IsTrueOf : PlainInstance → Claim → Type 0
IsTrueOf instance Fitting = Fits instance
IsTrueOf instance NotFitting = ¬ Fits instance
IsTrueOf instance (LeastHeight h) = IsLeastHeight instance h
IsTrueOf instance (HeightBetween a b) = IsHeightBetween instance a b
IsTrueOf instance NoHeight = (h : ℕ) → ¬ Fits (with_last_side instance h)
IsTrueOf instance (LeastBins k) = IsLeastBins instance k
IsTrueOf instance (BinsBetween a b) = IsBinsBetween instance a b
IsTrueOf instance NoBins = (k : ℕ) → ¬ FitsInBins instance k
IsTrueOf instance (GreatestValue v) = IsGreatestValue instance v
IsTrueOf instance (ValueBetween a b) = IsValueBetween instance a b
