-- What the answer of `knapsack` says.
use Rattle.std.specs.Prelude.{ℕ, suc, ◌<◌, ◌≡◌, ◌⊎◌, List}
use Rattle.std.specs.declared.option.Option.{Option}
use Rattle.packing_terms.specs.Packing.{PlainInstance}
use Rattle.packing_terms.specs.Goals.{IsGreatestValue}
use Rattle.packing_terms.specs.Tokens.{PlainToken}
use Rattle.packing_terms.specs.OuterRefutation.{IsValueRefutation}
use Rattle.tree_terms.specs.OuterSearch.{AreTakenNumbers}
use Rattle.text_terms.specs.Claims.{IsValueBetween}
use Rattle.text_terms.specs.declared.claim.Claim.TheVariants.{GreatestValue, ValueBetween}
use Rattle.answer_terms.specs.Answers.{answer_text}
use Rattle.answer_terms.specs.Answers.Answer.{Claimed}
use Rattle.pack_streams.specs.Moves.{Appended}
use Rattle.tree_terms.specs.RunEnds.{HasValuePastBudget}
use Rattle.text_terms.specs.declared.settings.Settings.{Settings}

-- The greatest value over all sets of boxes that fit, with the taken boxes and their places and
-- tokens that refute one more. No value that was decided has more branchings than the budget.
pub record IsGreatest (instance : PlainInstance) (settings : Settings) (sunk_old sunk_new : Option (List ℕ))
    (status : ℕ) : Type 0 where
  pub status_is : status ≡ 0
  pub value : ℕ
  pub greatest : IsGreatestValue instance value
  pub numbers : List ℕ
  pub packing : AreTakenNumbers instance value numbers
  pub tokens : List PlainToken
  pub refutation : IsValueRefutation instance (suc value) tokens
  pub within : ¬ HasValuePastBudget instance settings.budget settings.scales
  pub written : Appended sunk_old sunk_new (answer_text instance (Claimed (GreatestValue value) numbers tokens))

-- Two values between which the greatest one lies: a placed one and a refuted one, with both
-- certificates. Some value that was decided has more branchings than the budget.
pub record AreValuesBetween (instance : PlainInstance) (settings : Settings) (sunk_old sunk_new : Option (List ℕ))
    (status : ℕ) : Type 0 where
  pub status_is : status ≡ 3
  pub placed : ℕ
  pub refuted : ℕ
  pub order : placed < refuted
  pub between : IsValueBetween instance placed refuted
  pub numbers : List ℕ
  pub packing : AreTakenNumbers instance placed numbers
  pub tokens : List PlainToken
  pub refutation : IsValueRefutation instance refuted tokens
  pub past : HasValuePastBudget instance settings.budget settings.scales
  pub written : Appended sunk_old sunk_new (answer_text instance (Claimed (ValueBetween placed refuted) numbers tokens))

-- one of the two
abbrev pub IsValueDecided : PlainInstance → Settings → (sunk_old sunk_new : Option (List ℕ)) → ℕ → Type 0
IsValueDecided instance settings sunk_old sunk_new status =
    IsGreatest instance settings sunk_old sunk_new status ⊎ AreValuesBetween instance settings sunk_old sunk_new status
