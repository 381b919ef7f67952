-- The answer of a solving job for an instance, under the settings of the words; and what that of
-- `fit` says.
use Rattle.std.specs.Prelude.{ℕ, ◌+◌, ◌-◌, ◌*◌, ◌/◌, ◌^◌, ◌<◌, ◌≤◌, ◌≡◌, ◌⊎◌, List, []}
use Rattle.std.specs.declared.option.Option.{Option}
use Rattle.packing_terms.specs.Packing.{PlainInstance, dims, box_count, IsPacking, Fits}
use Rattle.packing_terms.specs.Sums.{sum_below}
use Rattle.packing_terms.specs.Tokens.{PlainToken}
use Rattle.packing_terms.specs.Refutation.{Refutes}
use Rattle.tree_terms.specs.Trees.{outcome, count_of}
use Rattle.tree_terms.specs.ClassTree.{class_tree}
use Rattle.answer_terms.specs.declared.job.DocumentJob.{DocumentJob}
use Rattle.answer_terms.specs.declared.job.DocumentJob.TheVariants.{Solving as Solves, Reduced as Reduces}
use Rattle.text_terms.specs.declared.claim.SolvingJob.TheVariants.{Fit, Strip, Bins, Knapsack}
use Rattle.text_terms.specs.declared.claim.Claim.TheVariants.{Fitting, NotFitting}
use Rattle.answer_terms.specs.Answers.{answer_text}
use Rattle.answer_terms.specs.Answers.Answer.{Undecided, Claimed}
use Rattle.answer_terms.specs.Solved.{JobAnswer}
use Rattle.answer_terms.specs.Reduced.{document_answer}
use Rattle.pack_streams.specs.Moves.{Appended}
use Rattle.text_terms.specs.declared.settings.Settings.{Settings}

-- the answer that the job has for the instance, its status and its document; the number of workers
-- has no part
abbrev pub answer_for : DocumentJob → Settings → PlainInstance → JobAnswer
answer_for job settings instance = document_answer job settings.budget settings.scales instance

-- the count of branchings of the instance's class tree
abbrev pub branchings : Settings → PlainInstance → ℕ
branchings settings instance = count_of (outcome (class_tree instance [] settings.scales))

-- a status of an answer: yes or least, no or none, undecided or between
abbrev pub IsAnswerStatus : ℕ → Type 0
IsAnswerStatus status = (status ≡ 0) ⊎ ((status ≡ 1) ⊎ (status ≡ 3))

-- yes, with the places of a packing, and a count of branchings within the budget
pub record IsYes (instance : PlainInstance) (settings : Settings) (sunk_old sunk_new : Option (List ℕ)) (status : ℕ) :
    Type 0 where
  pub status_is : status ≡ 0
  pub places : List ℕ
  pub packing : IsPacking instance places
  pub within : branchings settings instance ≤ settings.budget
  pub written : Appended sunk_old sunk_new (answer_text instance (Claimed Fitting places []))

-- no, with the tokens of a refutation, where the instance doesn't fit, and a count of branchings
-- within the budget
pub record IsNo (instance : PlainInstance) (settings : Settings) (sunk_old sunk_new : Option (List ℕ)) (status : ℕ) :
    Type 0 where
  pub status_is : status ≡ 1
  pub none : ¬ Fits instance
  pub tokens : List PlainToken
  pub refutation : Refutes instance [] tokens
  pub within : branchings settings instance ≤ settings.budget
  pub written : Appended sunk_old sunk_new (answer_text instance (Claimed NotFitting [] tokens))

-- undecided, where the count of branchings is greater than the budget
pub record IsUndecided (instance : PlainInstance) (settings : Settings) (sunk_old sunk_new : Option (List ℕ))
    (status : ℕ) : Type 0 where
  pub status_is : status ≡ 3
  pub past : settings.budget < branchings settings instance
  pub written : Appended sunk_old sunk_new (answer_text instance Undecided)

-- one of the three
abbrev pub IsDecided : PlainInstance → Settings → (sunk_old sunk_new : Option (List ℕ)) → ℕ → Type 0
IsDecided instance settings sunk_old sunk_new status =
    IsYes instance settings sunk_old sunk_new status
    ⊎ (IsNo instance settings sunk_old sunk_new status ⊎ IsUndecided instance settings sunk_old sunk_new status)

-- the bound of every class tree: 3 to the number of pairs of boxes in all dimensions
abbrev pub class_bound : PlainInstance → ℕ
class_bound instance = 3 ^ (dims instance * box_count instance * (box_count instance - 1) / 2)

-- A budget that is enough for every tree that the job decides for the instance: for `fit` and each
-- height of a strip its class tree, from the symmetry facts on too, for each number of bins its bin
-- tree, for each value its choice tree.
abbrev pub IsBudgetSufficient : DocumentJob → PlainInstance → ℕ → Type 0
IsBudgetSufficient (Solves Fit) instance budget = class_bound instance ≤ budget + 1
IsBudgetSufficient (Reduces job) instance budget = class_bound instance ≤ budget + 1
IsBudgetSufficient (Solves Strip) instance budget = class_bound instance ≤ budget + 1
IsBudgetSufficient (Solves Bins) instance budget =
    class_bound instance * sum_below (box_count instance) (λ j. (box_count instance - 1) ^ (j + 1)) ≤ budget
IsBudgetSufficient (Solves Knapsack) instance budget = class_bound instance * (2 ^ (box_count instance + 1) - 2) ≤ budget
