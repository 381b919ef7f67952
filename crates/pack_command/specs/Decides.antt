-- What the answer of each job that answers with a document says of the instance, over all packings.
use Rattle.std.specs.Prelude.{ℕ, ◌≡◌, ◌↔◌, List}
use Rattle.std.specs.declared.option.Option.{Option}
use Rattle.packing_terms.specs.Packing.{PlainInstance, Fits}
use Rattle.answer_terms.specs.declared.job.DocumentJob.{DocumentJob}
use Rattle.answer_terms.specs.declared.job.DocumentJob.TheVariants.{Solving as Solves, Reduced as Reduces}
use Rattle.answer_terms.specs.declared.job.ReducedJob.TheVariants.{Fit as FromFit, Strip as FromStrip}
use Rattle.answer_streams.specs.declared.tree_start.TreeStart.TheVariants.{Nothing, Facts}
use Rattle.text_terms.specs.declared.claim.SolvingJob.TheVariants.{Fit, Strip, Bins, Knapsack}
use Rattle.text_terms.specs.declared.settings.Settings.{Settings}
use Rattle.pack_command.specs.Answered.{IsDecided}
use Rattle.pack_command.specs.Reductions.{IsReducedDecided}
use Rattle.pack_command.specs.Strips.{IsStripDecided}
use Rattle.pack_command.specs.FewestBins.{AreBinsDecided}
use Rattle.pack_command.specs.GreatestValues.{IsValueDecided}

-- `fit`: yes with a packing, no with a refutation, or undecided; `strip`, `bins`, `knapsack`: the least
-- height, the least number of bins or the greatest value, none, or two levels between which it lies,
-- each with both certificates. From the symmetry facts on, what is refuted is refuted under them.
abbrev pub IsJobDecided : DocumentJob → PlainInstance → Settings → (sunk_old sunk_new : Option (List ℕ)) → ℕ → Type 0
IsJobDecided (Solves Fit) = IsDecided
IsJobDecided (Reduces FromFit) = IsReducedDecided
IsJobDecided (Solves Strip) = IsStripDecided Nothing
IsJobDecided (Reduces FromStrip) = IsStripDecided Facts
IsJobDecided (Solves Bins) = AreBinsDecided
IsJobDecided (Solves Knapsack) = IsValueDecided

-- the job asks whether the instance fits
abbrev pub AsksWhetherFits : DocumentJob → Type 0
AsksWhetherFits (Solves Fit) = Unit {0}
AsksWhetherFits (Reduces FromFit) = Unit {0}
AsksWhetherFits (Solves Strip) = ⊥
AsksWhetherFits (Reduces FromStrip) = ⊥
AsksWhetherFits (Solves Bins) = ⊥
AsksWhetherFits (Solves Knapsack) = ⊥

-- the status says exactly whether the instance fits
pub record StatusDecidesFit (instance : PlainInstance) (status : ℕ) : Type 0 where
  pub yes : (status ≡ 0) ↔ Fits instance
  pub no : (status ≡ 1) ↔ (¬ Fits instance)
