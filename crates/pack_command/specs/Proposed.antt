-- What the solving jobs with proposals promise.
use Rattle.std.specs.Prelude.{ℕ, suc, pred, ◌<◌, ◌≤◌, ◌≡◌, ◌⊎◌, false, List, [], String, Ok, Err}
use Rattle.std.specs.declared.option.Option.{Option}
use Rattle.std.specs.declared.alloc.Global.{Global}
use Rattle.packing_terms.specs.Packing.{PlainInstance, IsPacking, Fits}
use Rattle.packing_terms.specs.Goals.{with_last_side, IsLeastHeight, IsLeastBins, IsGreatestValue}
use Rattle.packing_terms.specs.Limits.{IsInstance}
use Rattle.packing_terms.specs.Tokens.{PlainToken}
use Rattle.packing_terms.specs.Refutation.{Refutes}
use Rattle.packing_terms.specs.OuterRefutation.{IsBinRefutation, IsValueRefutation}
use Rattle.tree_terms.specs.OuterSearch.{AreBinNumbers, AreTakenNumbers}
use Rattle.tree_terms.specs.Trees.{PlainOutcome, Past}
use Rattle.text_terms.specs.Texts.{text_instance}
use Rattle.text_terms.specs.declared.settings.Settings.{Settings}
use Rattle.text_terms.specs.Claims.{IsHeightBetween, IsBinsBetween, IsValueBetween}
use Rattle.text_terms.specs.declared.claim.SolvingJob.{SolvingJob}
use Rattle.text_terms.specs.declared.claim.SolvingJob.TheVariants.{Fit as SolvesFit, Strip as SolvesStrip}
use Rattle.text_terms.specs.declared.claim.SolvingJob.TheVariants.{Bins as SolvesBins, Knapsack as SolvesKnapsack}
use Rattle.text_terms.specs.declared.claim.Claim.TheVariants.{Fitting, NotFitting, LeastHeight, HeightBetween}
use Rattle.text_terms.specs.declared.claim.Claim.TheVariants.{LeastBins, BinsBetween, GreatestValue, ValueBetween}
use Rattle.answer_terms.specs.Answers.{Answer, answer_text, status_of}
use Rattle.answer_terms.specs.Answers.Answer.{Undecided, Claimed}
use Rattle.answer_terms.specs.Solved.{fit_answer}
use Rattle.answer_streams.specs.declared.solution.Solution.{Solution}
use Rattle.answer_streams.specs.Solutions.{answer_found, solution_text, strip_found, bins_found, choice_found}
use Rattle.answer_streams.specs.Solutions.{IsPlacedSolution}
use Rattle.strip_solver.specs.declared.strip.Strip.{Strip as FoundStrip}
use Rattle.strip_solver.specs.Strips.{IsTrueStrip}
use Rattle.bin_knapsack.specs.declared.bins.Bins.{Bins as FoundBins}
use Rattle.bin_knapsack.specs.BinAnswers.{AreTrueBins}
use Rattle.bin_knapsack.specs.declared.choice.Choice.{Choice as FoundChoice}
use Rattle.bin_knapsack.specs.Choices.{IsTrueChoice}
use Rattle.class_search.specs.Right.{IsRight}
use Rattle.proposed_answers.specs.Behind.{has_scale_line, IsWithoutScales}
use Rattle.proposed_answers.specs.Shares.{level_share}
use Rattle.proposed_answers.specs.Heights.{height_count, IsNamedStrip, IsLimitedStrip, AreNeighboursPastBudget}
use Rattle.proposed_answers.specs.Counts.{bins_count, AreNamedBins, AreLimitedBins, AreNeighboursPastBudget as IsPastBins}
use Rattle.proposed_answers.specs.Values.{value_count, IsLimitedChoice, AreNeighboursPastBudget as IsPastChoice}
use Rattle.pack_streams.specs.Moves.{Appended}
use Rattle.pack_streams.specs.Writing.{AppendedPrefix}
use Rattle.pack_command.specs.Answered.{branchings}
use Rattle.pack_command.specs.Asked.{ProposedJob, Plain, ValueBounds, HeightBounds, AsksProposed}
use Rattle.pack_command.specs.Bounded.{IsBoundedFound}
use Rattle.pack_command.specs.BoundedHeights.{IsBoundedStripFound}
use Rattle.pack_command.specs.FewestBins.{HasNoBins}
use Rattle.pack_command.specs.Inputs.{IsWholeInput, IsPartTaken, IsInputRead}
use Rattle.pack_command.specs.Strips.{HasNoStrip}
use Rattle.pack_command.specs.declared.stop.Stop.{Stop}
use Rattle.pack_command.specs.declared.stop.Stop.TheVariants.{Words, TooLong, Text, Dimensions, ReadFault, WriteFault}
use Rattle.pack_command.specs.declared.stop.Stop.TheVariants.{NoMemory}

-- The answer for `fit`: a yes has a packing and a no a refutation, which has no line of scale functions
-- if these aren't wanted; it is undecided only where the class tree has more branchings than the budget.
pub record IsProposedFit (settings : Settings) (instance : PlainInstance) (answer : Answer) : Type 0 where
  pub outcome : PlainOutcome
  pub right : IsRight instance [] outcome
  pub past : outcome ≡ Past → settings.budget < branchings settings instance
  pub plain : settings.scales ≡ false → IsWithoutScales outcome
  pub answer_is : answer ≡ fit_answer outcome

-- The answer for a strip, which is true; it is two heights only where the class trees of the height above
-- the refuted one and of the height below the placed one have more branchings than the share of the budget.
pub record IsProposedStrip (settings : Settings) (instance : PlainInstance) (answer : Answer) : Type 0 where
  pub strip : FoundStrip
  pub right : IsTrueStrip instance strip
  pub named : IsNamedStrip instance strip
  pub limited : IsLimitedStrip strip
  pub past : AreNeighboursPastBudget instance settings.budget settings.scales strip
  pub answer_is : answer ≡ strip_found strip

-- The answer for bins, which is true; it is two numbers only where the bin trees of the number above the
-- refuted one and of the number below the placed one have more branchings than the budget.
pub record AreProposedBins (settings : Settings) (instance : PlainInstance) (answer : Answer) : Type 0 where
  pub bins : FoundBins
  pub right : AreTrueBins instance bins
  pub named : AreNamedBins instance bins
  pub limited : AreLimitedBins instance bins
  pub past : IsPastBins instance settings.budget settings.scales bins
  pub answer_is : answer ≡ bins_found bins

-- The answer for a value, which is true; it is two values only where the choice trees of the value above
-- the placed one and of the value below the refuted one have more branchings than the share of the budget.
pub record IsProposedChoice (settings : Settings) (instance : PlainInstance) (answer : Answer) : Type 0 where
  pub choice : FoundChoice
  pub right : IsTrueChoice instance choice
  pub limited : IsLimitedChoice instance choice
  pub past : IsPastChoice instance settings.budget settings.scales choice
  pub answer_is : answer ≡ choice_found choice

-- the answer of a job with proposals
abbrev pub IsProposed : SolvingJob → Settings → PlainInstance → Answer → Type 0
IsProposed SolvesFit settings instance answer = IsProposedFit settings instance answer
IsProposed SolvesStrip settings instance answer = IsProposedStrip settings instance answer
IsProposed SolvesBins settings instance answer = AreProposedBins settings instance answer
IsProposed SolvesKnapsack settings instance answer = IsProposedChoice settings instance answer

-- what was found is such an answer, with its document
pub record IsProposedSolution (job : SolvingJob) (settings : Settings) (instance : PlainInstance)
    (solution : Solution) : Type 0 where
  pub is : IsProposed job settings instance (answer_found solution)
  pub text : solution_text instance solution ≡ answer_text instance (answer_found solution)
  pub placed : IsPlacedSolution instance solution

-- the status and the document are those of such an answer
pub record IsProposedFound (job : SolvingJob) (settings : Settings) (instance : PlainInstance) (status : ℕ)
    (document : List ℕ) : Type 0 where
  pub answer : Answer
  pub is : IsProposed job settings instance answer
  pub status_is : status ≡ status_of answer
  pub document_is : document ≡ answer_text instance answer

-- of a solving job, of `knapsack` with priced leaves, or of `strip` with families
abbrev pub IsFound : ProposedJob → Settings → PlainInstance → ℕ → List ℕ → Type 0
IsFound (Plain job) settings instance status document = IsProposedFound job settings instance status document
IsFound (ValueBounds proposals) settings instance status document =
    IsBoundedFound proposals settings instance status document
IsFound (HeightBounds proposals) settings instance status document =
    IsBoundedStripFound proposals settings instance status document

-- the words ask for the job with proposals, the whole input is the text of this instance, and these are
-- the status and the document of its answer
pub record IsProposedAnswered (words : List (String Global)) (old new : Option (List ℕ)) (job : ProposedJob)
    (settings : Settings) (instance : PlainInstance) (status : ℕ) (document : List ℕ) : Type 0 where
  pub asked : AsksProposed words job settings
  pub bytes : List ℕ
  pub input : IsWholeInput old new bytes
  pub read : text_instance bytes ≡ Ok instance
  pub limits : IsInstance instance
  pub is : IsFound job settings instance status document

-- the document of the answer was written whole, with its status
pub record IsProposedWritten (words : List (String Global)) (old new sunk_old sunk_new : Option (List ℕ)) (status : ℕ) :
    Type 0 where
  pub job : ProposedJob
  pub settings : Settings
  pub instance : PlainInstance
  pub document : List ℕ
  pub answered : IsProposedAnswered words old new job settings instance status document
  pub written : Appended sunk_old sunk_new document

-- an answer was found, and a part at the front of its document was written
pub record IsProposedPartlyWritten (words : List (String Global)) (old new sunk_old sunk_new : Option (List ℕ)) : Type 0 where
  pub job : ProposedJob
  pub settings : Settings
  pub instance : PlainInstance
  pub status : ℕ
  pub document : List ℕ
  pub answered : IsProposedAnswered words old new job settings instance status document
  pub part : AppendedPrefix sunk_old sunk_new document

-- the words ask for a job with proposals
abbrev pub AsksForProposals : List (String Global) → Type 0
AsksForProposals words = (job : ProposedJob) × (settings : Settings) × AsksProposed words job settings

-- why it ended without its document
abbrev pub IsWithoutProposed : List (String Global) → (old new sunk_old sunk_new : Option (List ℕ)) → Stop → Type 0
IsWithoutProposed words old new sunk_old sunk_new TooLong = IsInputRead old new (Err TooLong) × (sunk_new ≡ sunk_old)
IsWithoutProposed words old new sunk_old sunk_new (Text fault) =
    IsInputRead old new (Err (Text fault)) × (sunk_new ≡ sunk_old)
IsWithoutProposed words old new sunk_old sunk_new Dimensions = ⊥
IsWithoutProposed words old new sunk_old sunk_new ReadFault =
    IsInputRead old new (Err ReadFault) × (sunk_new ≡ sunk_old)
IsWithoutProposed words old new sunk_old sunk_new WriteFault = IsProposedPartlyWritten words old new sunk_old sunk_new
IsWithoutProposed words old new sunk_old sunk_new NoMemory = IsPartTaken old new × (sunk_new ≡ sunk_old)
IsWithoutProposed words old new sunk_old sunk_new Words = ⊥

-- ---- what the answer of `fit` says

-- yes, with the places of a packing
pub record IsProposedYes (instance : PlainInstance) (sunk_old sunk_new : Option (List ℕ)) (status : ℕ) : Type 0 where
  pub status_is : status ≡ 0
  pub places : List ℕ
  pub packing : IsPacking instance places
  pub written : Appended sunk_old sunk_new (answer_text instance (Claimed Fitting places []))

-- no, with the tokens of a refutation, where the instance doesn't fit; none of them is a line of scale
-- functions if these aren't wanted
pub record IsProposedNo (instance : PlainInstance) (settings : Settings) (sunk_old sunk_new : Option (List ℕ))
    (status : ℕ) : Type 0 where
  pub status_is : status ≡ 1
  pub none : ¬ Fits instance
  pub tokens : List PlainToken
  pub refutation : Refutes instance [] tokens
  pub plain : settings.scales ≡ false → has_scale_line tokens ≡ false
  pub written : Appended sunk_old sunk_new (answer_text instance (Claimed NotFitting [] tokens))

-- undecided, only where the count of branchings of the class tree is greater than the budget
pub record IsProposedUndecided (instance : PlainInstance) (settings : Settings) (sunk_old sunk_new : Option (List ℕ))
    (status : ℕ) : Type 0 where
  pub status_is : status ≡ 3
  pub past : settings.budget < branchings settings instance
  pub written : Appended sunk_old sunk_new (answer_text instance Undecided)

-- one of the three
abbrev pub IsProposedFitDecided : PlainInstance → Settings → (sunk_old sunk_new : Option (List ℕ)) → ℕ → Type 0
IsProposedFitDecided instance settings sunk_old sunk_new status =
    IsProposedYes instance sunk_old sunk_new status
    ⊎ (IsProposedNo instance settings sunk_old sunk_new status
    ⊎ IsProposedUndecided instance settings sunk_old sunk_new status)

-- ---- what the answer of `strip` says

-- the least height over all packings, with places that are a packing in it and tokens that refute
-- the height below
pub record IsProposedLeast (instance : PlainInstance) (sunk_old sunk_new : Option (List ℕ)) (status : ℕ) : Type 0 where
  pub status_is : status ≡ 0
  pub height : ℕ
  pub least : IsLeastHeight instance height
  pub places : List ℕ
  pub packing : IsPacking (with_last_side instance height) places
  pub tokens : List PlainToken
  pub refutation : Refutes (with_last_side instance (pred height)) [] tokens
  pub written : Appended sunk_old sunk_new (answer_text instance (Claimed (LeastHeight height) places tokens))

-- Two heights between which the least one lies: a refuted one and a placed one, with both certificates.
-- The class trees of the height above the refuted one and of the height below the placed one have more
-- branchings than the share of the budget.
pub record IsProposedBetween (instance : PlainInstance) (settings : Settings) (sunk_old sunk_new : Option (List ℕ))
    (status : ℕ) : Type 0 where
  pub status_is : status ≡ 3
  pub refuted : ℕ
  pub placed : ℕ
  pub order : refuted < placed
  pub between : IsHeightBetween instance refuted placed
  pub places : List ℕ
  pub packing : IsPacking (with_last_side instance placed) places
  pub tokens : List PlainToken
  pub refutation : Refutes (with_last_side instance refuted) [] tokens
  pub past_above : level_share settings.budget < height_count instance settings.scales (suc refuted)
  pub past_below : level_share settings.budget < height_count instance settings.scales (pred placed)
  pub written : Appended sunk_old sunk_new (answer_text instance (Claimed (HeightBetween refuted placed) places tokens))

-- one of the two, or none
abbrev pub IsProposedStripDecided : PlainInstance → Settings → (sunk_old sunk_new : Option (List ℕ)) → ℕ → Type 0
IsProposedStripDecided instance settings sunk_old sunk_new status =
    IsProposedLeast instance sunk_old sunk_new status
    ⊎ (IsProposedBetween instance settings sunk_old sunk_new status ⊎ HasNoStrip instance sunk_old sunk_new status)

-- ---- what the answer of `bins` says

-- the least number of bins over all packings, with each box's bin and place, and tokens that refute one
-- bin less
pub record IsProposedFewest (instance : PlainInstance) (sunk_old sunk_new : Option (List ℕ)) (status : ℕ) : Type 0 where
  pub status_is : status ≡ 0
  pub bins : ℕ
  pub least : IsLeastBins instance bins
  pub numbers : List ℕ
  pub packing : AreBinNumbers instance bins numbers
  pub tokens : List PlainToken
  pub refutation : IsBinRefutation instance (pred bins) tokens
  pub written : Appended sunk_old sunk_new (answer_text instance (Claimed (LeastBins bins) numbers tokens))

-- Two numbers of bins between which the least one lies: a refuted one and a placed one, with both
-- certificates. The bin trees of the number above the refuted one and of the number below the placed one
-- have more branchings than the budget.
pub record AreProposedBetween (instance : PlainInstance) (settings : Settings) (sunk_old sunk_new : Option (List ℕ))
    (status : ℕ) : Type 0 where
  pub status_is : status ≡ 3
  pub refuted : ℕ
  pub placed : ℕ
  pub order : refuted < placed
  pub between : IsBinsBetween instance refuted placed
  pub numbers : List ℕ
  pub packing : AreBinNumbers instance placed numbers
  pub tokens : List PlainToken
  pub refutation : IsBinRefutation instance refuted tokens
  pub past_above : settings.budget < bins_count instance settings.scales (suc refuted)
  pub past_below : settings.budget < bins_count instance settings.scales (pred placed)
  pub written : Appended sunk_old sunk_new (answer_text instance (Claimed (BinsBetween refuted placed) numbers tokens))

-- one of the two, or none
abbrev pub AreProposedBinsDecided : PlainInstance → Settings → (sunk_old sunk_new : Option (List ℕ)) → ℕ → Type 0
AreProposedBinsDecided instance settings sunk_old sunk_new status =
    IsProposedFewest instance sunk_old sunk_new status
    ⊎ (AreProposedBetween instance settings sunk_old sunk_new status ⊎ HasNoBins instance sunk_old sunk_new status)

-- ---- what the answer of `knapsack` says

-- the greatest value over all sets of boxes that fit, with the taken boxes and their places, and tokens
-- that refute one more
pub record IsProposedGreatest (instance : PlainInstance) (sunk_old sunk_new : Option (List ℕ)) (status : ℕ) :
    Type 0 where
  pub status_is : status ≡ 0
  pub value : ℕ
  pub greatest : IsGreatestValue instance value
  pub numbers : List ℕ
  pub packing : AreTakenNumbers instance value numbers
  pub tokens : List PlainToken
  pub refutation : IsValueRefutation instance (suc value) tokens
  pub written : Appended sunk_old sunk_new (answer_text instance (Claimed (GreatestValue value) numbers tokens))

-- Two values between which the greatest one lies: a placed one and a refuted one, with both certificates.
-- The choice trees of the value above the placed one and of the value below the refuted one have more
-- branchings than the budget.
pub record AreProposedValues (instance : PlainInstance) (settings : Settings) (sunk_old sunk_new : Option (List ℕ))
    (status : ℕ) : Type 0 where
  pub status_is : status ≡ 3
  pub placed : ℕ
  pub refuted : ℕ
  pub order : placed < refuted
  pub between : IsValueBetween instance placed refuted
  pub numbers : List ℕ
  pub packing : AreTakenNumbers instance placed numbers
  pub tokens : List PlainToken
  pub refutation : IsValueRefutation instance refuted tokens
  pub past_above : level_share settings.budget < value_count instance settings.scales (suc placed)
  pub past_below : level_share settings.budget < value_count instance settings.scales (pred refuted)
  pub written : Appended sunk_old sunk_new (answer_text instance (Claimed (ValueBetween placed refuted) numbers tokens))

-- one of the two
abbrev pub IsProposedValueDecided : PlainInstance → Settings → (sunk_old sunk_new : Option (List ℕ)) → ℕ → Type 0
IsProposedValueDecided instance settings sunk_old sunk_new status =
    IsProposedGreatest instance sunk_old sunk_new status ⊎ AreProposedValues instance settings sunk_old sunk_new status

-- ---- of each job

abbrev pub IsProposedDecided : SolvingJob → PlainInstance → Settings → (sunk_old sunk_new : Option (List ℕ))
    → ℕ → Type 0
IsProposedDecided SolvesFit instance settings sunk_old sunk_new status =
    IsProposedFitDecided instance settings sunk_old sunk_new status
IsProposedDecided SolvesStrip instance settings sunk_old sunk_new status =
    IsProposedStripDecided instance settings sunk_old sunk_new status
IsProposedDecided SolvesBins instance settings sunk_old sunk_new status =
    AreProposedBinsDecided instance settings sunk_old sunk_new status
IsProposedDecided SolvesKnapsack instance settings sunk_old sunk_new status =
    IsProposedValueDecided instance settings sunk_old sunk_new status

-- The budget is enough for the trees that the job decides for the instance, by their counts: for `fit` its
-- class tree; for `bins` the bin tree of each number of bins; for `strip` the share of the budget for the
-- class tree of each height, and for `knapsack` for the choice tree of each value.
abbrev pub IsBudgetSufficientProposed : SolvingJob → Settings → PlainInstance → Type 0
IsBudgetSufficientProposed SolvesFit settings instance = branchings settings instance ≤ settings.budget
IsBudgetSufficientProposed SolvesStrip settings instance =
    (h : ℕ) → height_count instance settings.scales h ≤ level_share settings.budget
IsBudgetSufficientProposed SolvesBins settings instance = (k : ℕ) → bins_count instance settings.scales k ≤ settings.budget
IsBudgetSufficientProposed SolvesKnapsack settings instance =
    (t : ℕ) → value_count instance settings.scales t ≤ level_share settings.budget
