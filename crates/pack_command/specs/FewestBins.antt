-- What the answer of `bins` says.
use Rattle.std.specs.Prelude.{ℕ, pred, ◌<◌, ◌≡◌, ◌⊎◌, List}
use Rattle.std.specs.declared.option.Option.{Option}
use Rattle.packing_terms.specs.Packing.{PlainInstance}
use Rattle.packing_terms.specs.Goals.{IsLeastBins}
use Rattle.packing_terms.specs.TooLarge.{IsFirstTooLarge}
use Rattle.packing_terms.specs.Tokens.{PlainToken}
use Rattle.packing_terms.specs.OuterRefutation.{IsBinRefutation}
use Rattle.tree_terms.specs.OuterSearch.{AreBinNumbers}
use Rattle.text_terms.specs.Claims.{IsBinsBetween}
use Rattle.text_terms.specs.declared.claim.Claim.TheVariants.{LeastBins, BinsBetween, NoBins}
use Rattle.answer_terms.specs.Answers.{answer_text}
use Rattle.answer_terms.specs.Answers.Answer.{Claimed}
use Rattle.answer_terms.specs.Solved.{none_answer}
use Rattle.pack_streams.specs.Moves.{Appended}
use Rattle.tree_terms.specs.RunEnds.{HasBinCountPastBudget}
use Rattle.text_terms.specs.declared.settings.Settings.{Settings}

-- The least number of bins over all packings, with each box's bin and place and tokens that refute
-- one bin less. No number of bins that was decided has more branchings than the budget.
pub record IsFewest (instance : PlainInstance) (settings : Settings) (sunk_old sunk_new : Option (List ℕ))
    (status : ℕ) : Type 0 where
  pub status_is : status ≡ 0
  pub bins : ℕ
  pub least : IsLeastBins instance bins
  pub numbers : List ℕ
  pub packing : AreBinNumbers instance bins numbers
  pub tokens : List PlainToken
  pub refutation : IsBinRefutation instance (pred bins) tokens
  pub within : ¬ HasBinCountPastBudget instance settings.budget settings.scales
  pub written : Appended sunk_old sunk_new (answer_text instance (Claimed (LeastBins bins) numbers tokens))

-- Two numbers of bins between which the least one lies: a refuted one and a placed one, with both
-- certificates. Some number of bins that was decided has more branchings than the budget.
pub record AreBinsBetween (instance : PlainInstance) (settings : Settings) (sunk_old sunk_new : Option (List ℕ))
    (status : ℕ) : Type 0 where
  pub status_is : status ≡ 3
  pub refuted : ℕ
  pub placed : ℕ
  pub order : refuted < placed
  pub between : IsBinsBetween instance refuted placed
  pub numbers : List ℕ
  pub packing : AreBinNumbers instance placed numbers
  pub tokens : List PlainToken
  pub refutation : IsBinRefutation instance refuted tokens
  pub past : HasBinCountPastBudget instance settings.budget settings.scales
  pub written : Appended sunk_old sunk_new (answer_text instance (Claimed (BinsBetween refuted placed) numbers tokens))

-- There is no least number of bins, because of the first box that exceeds the container.
pub record HasNoBins (instance : PlainInstance) (sunk_old sunk_new : Option (List ℕ)) (status : ℕ) : Type 0 where
  pub status_is : status ≡ 1
  pub none : ¬ ((bins : ℕ) × IsLeastBins instance bins)
  pub box_no : ℕ
  pub dim : ℕ
  pub first : IsFirstTooLarge instance box_no dim
  pub written : Appended sunk_old sunk_new (answer_text instance (none_answer NoBins (box_no, dim)))

-- one of the three
abbrev pub AreBinsDecided : PlainInstance → Settings → (sunk_old sunk_new : Option (List ℕ)) → ℕ → Type 0
AreBinsDecided instance settings sunk_old sunk_new status =
    IsFewest instance settings sunk_old sunk_new status
    ⊎ (AreBinsBetween instance settings sunk_old sunk_new status ⊎ HasNoBins instance sunk_old sunk_new status)
