-- What the answer of `strip` says: from no exclusion on, or from the symmetry facts on, which
-- the trees of all heights begin with then.
use Rattle.std.specs.Prelude.{ℕ, pred, ◌<◌, ◌≡◌, ◌⊎◌, List}
use Rattle.std.specs.declared.option.Option.{Option}
use Rattle.packing_terms.specs.Packing.{PlainInstance, IsPacking}
use Rattle.packing_terms.specs.Goals.{with_last_side, IsLeastHeight}
use Rattle.packing_terms.specs.TooLarge.{IsFirstTooWide}
use Rattle.packing_terms.specs.Tokens.{PlainToken}
use Rattle.packing_terms.specs.Refutation.{Refutes}
use Rattle.text_terms.specs.Claims.{IsHeightBetween}
use Rattle.text_terms.specs.declared.claim.Claim.TheVariants.{LeastHeight, HeightBetween, NoHeight}
use Rattle.answer_streams.specs.declared.tree_start.TreeStart.{TreeStart}
use Rattle.answer_streams.specs.declared.tree_start.TreeStart.TheVariants.{Nothing}
use Rattle.answer_terms.specs.Answers.Answer.{Claimed}
use Rattle.answer_terms.specs.Solved.{none_answer}
use Rattle.pack_streams.specs.Moves.{Appended}
use Rattle.answer_streams.specs.Headed.{headed_text, start_facts}
use Rattle.tree_terms.specs.Heights.{HasHeightPastBudgetFrom}
use Rattle.text_terms.specs.declared.settings.Settings.{Settings}

-- The least height over all packings, with places that are a packing in it and tokens that refute
-- the height below. No height that was decided has more branchings than the budget.
pub record IsLeastStrip (start : TreeStart) (instance : PlainInstance) (settings : Settings)
    (sunk_old sunk_new : Option (List ℕ)) (status : ℕ) : Type 0 where
  pub status_is : status ≡ 0
  pub height : ℕ
  pub least : IsLeastHeight instance height
  pub places : List ℕ
  pub packing : IsPacking (with_last_side instance height) places
  pub tokens : List PlainToken
  pub refutation : Refutes (with_last_side instance (pred height)) (start_facts start instance) tokens
  pub within : ¬ HasHeightPastBudgetFrom (start_facts start instance) instance settings.budget settings.scales
  pub written : Appended sunk_old sunk_new (headed_text start instance (Claimed (LeastHeight height) places tokens))

-- Two heights between which the least one lies: a refuted one and a placed one, with both
-- certificates. Some height that was decided has more branchings than the budget.
pub record IsStripBetween (start : TreeStart) (instance : PlainInstance) (settings : Settings)
    (sunk_old sunk_new : Option (List ℕ)) (status : ℕ) : Type 0 where
  pub status_is : status ≡ 3
  pub refuted : ℕ
  pub placed : ℕ
  pub order : refuted < placed
  pub between : IsHeightBetween instance refuted placed
  pub places : List ℕ
  pub packing : IsPacking (with_last_side instance placed) places
  pub tokens : List PlainToken
  pub refutation : Refutes (with_last_side instance refuted) (start_facts start instance) tokens
  pub past : HasHeightPastBudgetFrom (start_facts start instance) instance settings.budget settings.scales
  pub written : Appended sunk_old sunk_new
      (headed_text start instance (Claimed (HeightBetween refuted placed) places tokens))

-- There is no least height, because of the first box that exceeds the container in a dimension
-- other than the last.
pub record HasNoStripUnder (start : TreeStart) (instance : PlainInstance) (sunk_old sunk_new : Option (List ℕ))
    (status : ℕ) : Type 0 where
  pub status_is : status ≡ 1
  pub none : ¬ ((height : ℕ) × IsLeastHeight instance height)
  pub box_no : ℕ
  pub dim : ℕ
  pub first : IsFirstTooWide instance box_no dim
  pub written : Appended sunk_old sunk_new (headed_text start instance (none_answer NoHeight (box_no, dim)))

-- the same of trees that begin with nothing
abbrev pub HasNoStrip : PlainInstance → (sunk_old sunk_new : Option (List ℕ)) → ℕ → Type 0
HasNoStrip instance sunk_old sunk_new status = HasNoStripUnder Nothing instance sunk_old sunk_new status

-- one of the three
abbrev pub IsStripDecided : TreeStart → PlainInstance → Settings → (sunk_old sunk_new : Option (List ℕ)) → ℕ → Type 0
IsStripDecided start instance settings sunk_old sunk_new status =
    IsLeastStrip start instance settings sunk_old sunk_new status
    ⊎ (IsStripBetween start instance settings sunk_old sunk_new status
    ⊎ HasNoStripUnder start instance sunk_old sunk_new status)
