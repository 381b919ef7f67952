-- What the job `make` promises.
use Rattle.std.specs.Prelude.{ℕ, ◌≡◌, ◌+◌, ◌<◌, ◌≤◌, ◌↔◌, List, [], String}
use Rattle.std.specs.declared.option.Option.{Option}
use Rattle.std.specs.declared.alloc.Global.{Global}
use Rattle.packing_terms.specs.Packing.{Fits}
use Rattle.packing_terms.specs.Generator.{made_instance}
use Rattle.tree_terms.specs.Trees.{outcome, under_budget}
use Rattle.tree_terms.specs.ClassTree.{class_tree}
use Rattle.answer_terms.specs.Made.{made_answer}
use Rattle.answer_terms.specs.Solved.{JobAnswer}
use Rattle.pack_streams.specs.Moves.{Appended}
use Rattle.pack_streams.specs.Writing.{AppendedPrefix}
use Rattle.work_share.specs.Outcomes.{plain_outcome}
use Rattle.text_terms.specs.declared.settings.Settings.{Settings}
use Rattle.pack_command.specs.Answered.{branchings, class_bound}
use Rattle.pack_command.specs.Asked.{AsksToMake}
use Rattle.answer_streams.specs.declared.summary.Made.{Made}
use Rattle.pack_command.specs.declared.stop.Stop.{Stop}
use Rattle.pack_command.specs.declared.stop.Stop.TheVariants.{Words, TooLong, Text, Dimensions, ReadFault, WriteFault}
use Rattle.pack_command.specs.declared.stop.Stop.TheVariants.{NoMemory}

-- the answer for a number; the number of workers has no part
abbrev pub made_for : ℕ → Settings → JobAnswer
made_for number settings = made_answer number settings.budget settings.scales

-- the instance of the number, and the outcome of its class tree under the budget
pub record IsMadeOf (number : ℕ) (settings : Settings) (made : Made) : Type 0 where
  pub number_is : made.number ≡ number
  pub instance_is : made.instance ≡ made_instance number
  pub budget_is : made.budget ≡ settings.budget
  pub outcome_is : plain_outcome made.outcome
      ≡ under_budget settings.budget (outcome (class_tree (made_instance number) [] settings.scales))

-- The summary of the number was written whole, with its status. Nothing was taken from the source.
pub record IsMade (words : List (String Global)) (old new sunk_old sunk_new : Option (List ℕ)) (status : ℕ) :
    Type 0 where
  pub number : ℕ
  pub settings : Settings
  pub asked : AsksToMake words number settings
  pub untaken : new ≡ old
  pub status_is : status ≡ (made_for number settings).status
  pub written : Appended sunk_old sunk_new (made_for number settings).text

-- what was written where a summary wasn't written whole
abbrev pub IsSummaryPartlyWritten : ℕ → Settings → (sunk_old sunk_new : Option (List ℕ)) → Stop → Type 0
IsSummaryPartlyWritten number settings sunk_old sunk_new WriteFault = AppendedPrefix sunk_old sunk_new (made_for number settings).text
IsSummaryPartlyWritten number settings sunk_old sunk_new NoMemory = sunk_new ≡ sunk_old
IsSummaryPartlyWritten number settings sunk_old sunk_new Words = ⊥
IsSummaryPartlyWritten number settings sunk_old sunk_new TooLong = ⊥
IsSummaryPartlyWritten number settings sunk_old sunk_new (Text fault) = ⊥
IsSummaryPartlyWritten number settings sunk_old sunk_new Dimensions = ⊥
IsSummaryPartlyWritten number settings sunk_old sunk_new ReadFault = ⊥

-- why the job ended without its summary. Nothing was taken from the source.
pub record IsUnmade (words : List (String Global)) (old new sunk_old sunk_new : Option (List ℕ)) (stop : Stop) :
    Type 0 where
  pub number : ℕ
  pub settings : Settings
  pub asked : AsksToMake words number settings
  pub untaken : new ≡ old
  pub cut : IsSummaryPartlyWritten number settings sunk_old sunk_new stop

-- exactly the summary of the number was written, with its status
pub record IsMakeOutput (number : ℕ) (settings : Settings) (sunk_old sunk_new : Option (List ℕ)) (status : ℕ) :
    Type 0 where
  pub status_is : status ≡ (made_for number settings).status
  pub written : Appended sunk_old sunk_new (made_for number settings).text
  pub yes : status ≡ 0 → Fits (made_instance number)
  pub no : status ≡ 1 → ¬ Fits (made_instance number)
  pub undecided : status ≡ 3 ↔ settings.budget < branchings settings (made_instance number)
  pub enough : class_bound (made_instance number) ≤ settings.budget + 1 → ¬ (status ≡ 3)
