-- What shows a claim, and the laws: the answers of the jobs are shown and true, and when `fit` is
-- undecided.
use Rattle.std.specs.Prelude.{ℕ, pred, suc, ◌-◌, ◌<◌, ◌≤◌, ◌≡◌, ◌↔◌, Bool, List, [], ◌∷◌}
use Rattle.packing_terms.specs.declared.Exclusion.{Exclusion}
use Rattle.packing_terms.specs.Packing.{PlainInstance, dims, box_count, IsPacking}
use Rattle.packing_terms.specs.Goals.{with_last_side}
use Rattle.packing_terms.specs.Limits.{IsInstance, max_height}
use Rattle.packing_terms.specs.Tokens.{PlainToken}
use Rattle.packing_terms.specs.Tokens.PlainToken.{TooLarge}
use Rattle.packing_terms.specs.Refutation.{Refutes, IsTooLarge}
use Rattle.packing_terms.specs.OuterRefutation.{IsBinRefutation, IsValueRefutation}
use Rattle.tree_terms.specs.Trees.{outcome, count_of}
use Rattle.tree_terms.specs.ClassTree.{class_tree}
use Rattle.tree_terms.specs.OuterSearch.{AreBinNumbers, AreTakenNumbers}
use Rattle.text_terms.specs.declared.claim.SolvingJob.{SolvingJob}
use Rattle.text_terms.specs.declared.claim.Claim.{Claim}
use Rattle.text_terms.specs.Claims.{job_of, max_worth, IsTrueOf}
use Rattle.text_terms.specs.declared.claim.SolvingJob.TheVariants.{Fit}
use Rattle.text_terms.specs.declared.claim.Claim.TheVariants.{Fitting, NotFitting, LeastHeight, HeightBetween}
use Rattle.text_terms.specs.declared.claim.Claim.TheVariants.{NoHeight, LeastBins, BinsBetween, NoBins}
use Rattle.text_terms.specs.declared.claim.Claim.TheVariants.{GreatestValue, ValueBetween}
use Rattle.answer_terms.specs.Answers.Answer.{Undecided, Claimed}
use Rattle.answer_terms.specs.Solved.{solved}

-- the instance fits at the one height by these places, and at the other not by these tokens, which
-- refute it under the exclusions
pub record ShowsHeight (start : List Exclusion) (instance : PlainInstance) (refuted placed : ℕ) (numbers : List ℕ)
    (tokens : List PlainToken) : Type 0 where
  pub rising : refuted < placed
  pub most : placed ≤ max_height
  pub packing : IsPacking (with_last_side instance placed) numbers
  pub refutation : Refutes (with_last_side instance refuted) start tokens

-- the same of numbers of bins
pub record ShowsBins (instance : PlainInstance) (refuted placed : ℕ) (numbers : List ℕ) (tokens : List PlainToken) :
    Type 0 where
  pub rising : refuted < placed
  pub most : placed ≤ box_count instance
  pub packing : AreBinNumbers instance placed numbers
  pub refutation : IsBinRefutation instance refuted tokens

-- the one value is reached by these numbers, and the other not by these tokens
pub record ShowsValue (instance : PlainInstance) (placed refuted : ℕ) (numbers : List ℕ) (tokens : List PlainToken) :
    Type 0 where
  pub rising : placed < refuted
  pub most : refuted ≤ max_worth
  pub packing : AreTakenNumbers instance placed numbers
  pub refutation : IsValueRefutation instance refuted tokens

-- one token names a box that exceeds the container in one of the first m dimensions
pub record ShowsNone (instance : PlainInstance) (m : ℕ) (tokens : List PlainToken) : Type 0 where
  pub box_no : ℕ
  pub dim : ℕ
  pub are : tokens ≡ TooLarge box_no dim ∷ []
  pub large : IsTooLarge instance box_no dim
  pub among : dim ≤ m

-- the numbers and the tokens show the claim, from trees that begin with these exclusions where an
-- instance is refuted
abbrev pub ShowsFrom : List Exclusion → PlainInstance → Claim → List ℕ → List PlainToken → Type 0
ShowsFrom start instance Fitting numbers tokens = IsPacking instance numbers
ShowsFrom start instance NotFitting numbers tokens = Refutes instance start tokens
ShowsFrom start instance (LeastHeight h) numbers tokens = ShowsHeight start instance (pred h) h numbers tokens
ShowsFrom start instance (HeightBetween a b) numbers tokens = ShowsHeight start instance a b numbers tokens
ShowsFrom start instance NoHeight numbers tokens = ShowsNone instance (dims instance - 1) tokens
ShowsFrom start instance (LeastBins k) numbers tokens = ShowsBins instance (pred k) k numbers tokens
ShowsFrom start instance (BinsBetween a b) numbers tokens = ShowsBins instance a b numbers tokens
ShowsFrom start instance NoBins numbers tokens = ShowsNone instance (dims instance) tokens
ShowsFrom start instance (GreatestValue v) numbers tokens = ShowsValue instance v (suc v) numbers tokens
ShowsFrom start instance (ValueBetween a b) numbers tokens = ShowsValue instance a b numbers tokens

-- the numbers and the tokens show the claim
abbrev pub Shows : PlainInstance → Claim → List ℕ → List PlainToken → Type 0
Shows instance claim numbers tokens = ShowsFrom [] instance claim numbers tokens

-- what a job claims is of the job, and shown from these exclusions on
pub record IsShownFrom (start : List Exclusion) (job : SolvingJob) (instance : PlainInstance) (claim : Claim)
    (numbers : List ℕ) (tokens : List PlainToken) : Type 0 where
  pub of_job : job_of claim ≡ job
  pub shown : ShowsFrom start instance claim numbers tokens

-- the same from none
abbrev pub IsShown : SolvingJob → PlainInstance → Claim → List ℕ → List PlainToken → Type 0
IsShown job instance claim numbers tokens = IsShownFrom [] job instance claim numbers tokens

abbrev pub AnswersAreShown : Type 0
AnswersAreShown = (job : SolvingJob) (budget : ℕ) (scales : Bool) (instance : PlainInstance) (claim : Claim)
    (numbers : List ℕ) (tokens : List PlainToken)
    → IsInstance instance → solved job budget scales instance ≡ Claimed claim numbers tokens
    → IsShown job instance claim numbers tokens

-- what a job claims is true
abbrev pub AnswersAreTrue : Type 0
AnswersAreTrue = (job : SolvingJob) (budget : ℕ) (scales : Bool) (instance : PlainInstance) (claim : Claim)
    (numbers : List ℕ) (tokens : List PlainToken)
    → IsInstance instance → solved job budget scales instance ≡ Claimed claim numbers tokens → IsTrueOf instance claim

-- `fit` is undecided exactly where its class tree has more branchings than the budget
abbrev pub UndecidedExactlyPast : Type 0
UndecidedExactlyPast = (budget : ℕ) (scales : Bool) (instance : PlainInstance)
    → (solved Fit budget scales instance ≡ Undecided ↔ budget < count_of (outcome (class_tree instance [] scales)))
