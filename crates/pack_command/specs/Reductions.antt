-- What the answer of `reduced` says.
use Rattle.std.specs.Prelude.{ℕ, ◌<◌, ◌≤◌, ◌≡◌, ◌⊎◌, List, []}
use Rattle.std.specs.declared.option.Option.{Option}
use Rattle.packing_terms.specs.Packing.{PlainInstance, IsPacking, Fits}
use Rattle.packing_terms.specs.Tokens.{PlainToken}
use Rattle.packing_terms.specs.Refutation.{Refutes}
use Rattle.packing_terms.specs.Facts.{symmetry_facts}
use Rattle.tree_terms.specs.Trees.{outcome, count_of}
use Rattle.tree_terms.specs.ClassTree.{class_tree}
use Rattle.text_terms.specs.declared.claim.Claim.TheVariants.{Fitting, NotFitting}
use Rattle.answer_terms.specs.Answers.Answer.{Undecided, Claimed}
use Rattle.answer_terms.specs.Reduced.{reduced_text}
use Rattle.pack_streams.specs.Moves.{Appended}
use Rattle.text_terms.specs.declared.settings.Settings.{Settings}

-- the count of branchings of the class tree that begins with the symmetry facts
abbrev pub reduced_branchings : Settings → PlainInstance → ℕ
reduced_branchings settings instance =
    count_of (outcome (class_tree instance (symmetry_facts instance) settings.scales))

-- yes, with the places of a packing, and a count of branchings within the budget
pub record IsReducedYes (instance : PlainInstance) (settings : Settings) (sunk_old sunk_new : Option (List ℕ))
    (status : ℕ) : Type 0 where
  pub status_is : status ≡ 0
  pub places : List ℕ
  pub packing : IsPacking instance places
  pub within : reduced_branchings settings instance ≤ settings.budget
  pub written : Appended sunk_old sunk_new (reduced_text instance (Claimed Fitting places []))

-- no, where the instance doesn't fit, with the tokens of a refutation under its symmetry facts, and
-- a count of branchings within the budget
pub record IsReducedNo (instance : PlainInstance) (settings : Settings) (sunk_old sunk_new : Option (List ℕ))
    (status : ℕ) : Type 0 where
  pub status_is : status ≡ 1
  pub none : ¬ Fits instance
  pub tokens : List PlainToken
  pub refutation : Refutes instance (symmetry_facts instance) tokens
  pub within : reduced_branchings settings instance ≤ settings.budget
  pub written : Appended sunk_old sunk_new (reduced_text instance (Claimed NotFitting [] tokens))

-- undecided, where the count of branchings is greater than the budget
pub record IsReducedUndecided (instance : PlainInstance) (settings : Settings) (sunk_old sunk_new : Option (List ℕ))
    (status : ℕ) : Type 0 where
  pub status_is : status ≡ 3
  pub past : settings.budget < reduced_branchings settings instance
  pub written : Appended sunk_old sunk_new (reduced_text instance Undecided)

-- one of the three
abbrev pub IsReducedDecided : PlainInstance → Settings → (sunk_old sunk_new : Option (List ℕ)) → ℕ → Type 0
IsReducedDecided instance settings sunk_old sunk_new status =
    IsReducedYes instance settings sunk_old sunk_new status
    ⊎ (IsReducedNo instance settings sunk_old sunk_new status
    ⊎ IsReducedUndecided instance settings sunk_old sunk_new status)
