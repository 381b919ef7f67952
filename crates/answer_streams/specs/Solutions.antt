-- What a job finds, as an answer of the definition.
use Rattle.std.specs.Prelude.{ℕ, ◌+◌, ◌*◌, ◌<◌, ◌≡◌, List, length}
use Rattle.packing_terms.specs.Packing.{PlainInstance, dims, box_count}
use Rattle.text_terms.specs.declared.claim.Claim.TheVariants.{LeastHeight, HeightBetween, NoHeight, LeastBins}
use Rattle.text_terms.specs.declared.claim.Claim.TheVariants.{BinsBetween, NoBins, GreatestValue, ValueBetween}
use Rattle.answer_terms.specs.Answers.{Answer, answer_text, status_of}
use Rattle.answer_terms.specs.Answers.Answer.{Claimed}
use Rattle.answer_terms.specs.Reduced.{reduced_text, document_answer}
use Rattle.answer_terms.specs.Solved.{fit_answer, none_answer}
use Rattle.answer_terms.specs.declared.job.DocumentJob.{DocumentJob}
use Rattle.work_share.specs.Outcomes.{plain_outcome}
use Rattle.strip_solver.specs.declared.strip.Strip.{Strip as FoundStrip}
use Rattle.strip_solver.specs.declared.strip.Strip.TheVariants.{Least, Between, NoneFits}
use Rattle.bin_knapsack.specs.declared.bins.Bins.{Bins as FoundBins}
use Rattle.bin_knapsack.specs.declared.bins.Bins.TheVariants.{Least as LeastCount, Between as CountBetween}
use Rattle.bin_knapsack.specs.declared.bins.Bins.TheVariants.{NoneFits as NoBin}
use Rattle.bin_knapsack.specs.declared.choice.Choice.{Choice as FoundChoice}
use Rattle.bin_knapsack.specs.declared.choice.Choice.TheVariants.{Greatest, Between as WorthBetween}
use Rattle.text_terms.specs.declared.settings.Settings.{Settings}
use Rattle.answer_streams.specs.Placed.{IsPlaced}
use Rattle.answer_streams.specs.declared.solution.Solution.{Solution}
use Rattle.answer_streams.specs.declared.solution.Solution.TheVariants.{Fit, Strip, Bins, Knapsack, Reduced}
use Rattle.answer_streams.specs.declared.solution.Solution.TheVariants.{ReducedStrip}

-- the answer of a strip
abbrev pub strip_found : FoundStrip → Answer
strip_found (Least height places tokens) = Claimed (LeastHeight height) places.items tokens
strip_found (Between refuted tokens height places) =
    Claimed (HeightBetween refuted height) places.items tokens
strip_found (NoneFits v i) = none_answer NoHeight (v, i)

-- the answer for bins
abbrev pub bins_found : FoundBins → Answer
bins_found (LeastCount bins numbers tokens) = Claimed (LeastBins bins) numbers.items tokens
bins_found (CountBetween refuted tokens bins numbers) =
    Claimed (BinsBetween refuted bins) numbers.items tokens
bins_found (NoBin v i) = none_answer NoBins (v, i)

-- the answer for a value
abbrev pub choice_found : FoundChoice → Answer
choice_found (Greatest value numbers tokens) = Claimed (GreatestValue value) numbers.items tokens
choice_found (WorthBetween placed numbers refuted tokens) =
    Claimed (ValueBetween placed refuted) numbers.items tokens

abbrev pub answer_found : Solution → Answer
answer_found (Fit outcome) = fit_answer (plain_outcome outcome)
answer_found (Strip strip) = strip_found strip
answer_found (Bins bins) = bins_found bins
answer_found (Knapsack choice) = choice_found choice
answer_found (Reduced outcome) = fit_answer (plain_outcome outcome)
answer_found (ReducedStrip strip) = strip_found strip

-- the document with it
abbrev pub solution_text : PlainInstance → Solution → List ℕ
solution_text instance (Fit outcome) = answer_text instance (fit_answer (plain_outcome outcome))
solution_text instance (Strip strip) = answer_text instance (strip_found strip)
solution_text instance (Bins bins) = answer_text instance (bins_found bins)
solution_text instance (Knapsack choice) = answer_text instance (choice_found choice)
solution_text instance (Reduced outcome) = reduced_text instance (fit_answer (plain_outcome outcome))
solution_text instance (ReducedStrip strip) = reduced_text instance (strip_found strip)

-- a number for each box and dimension
abbrev pub AreAllPlaced : PlainInstance → List ℕ → Type 0
AreAllPlaced instance places = length places ≡ box_count instance * dims instance

-- the places of a strip are as many as there are coordinates, and the box that is too wide is one
-- of the instance
abbrev pub IsPlacedStrip : PlainInstance → FoundStrip → Type 0
IsPlacedStrip instance (Least height places tokens) = AreAllPlaced instance places.items
IsPlacedStrip instance (Between refuted tokens height places) = AreAllPlaced instance places.items
IsPlacedStrip instance (NoneFits v i) = (v < box_count instance) × (i < dims instance)

-- a bin, and a number for each dimension, for each box
abbrev pub AreAllInBins : PlainInstance → List ℕ → Type 0
AreAllInBins instance numbers = length numbers ≡ box_count instance * (dims instance + 1)

-- the numbers for bins are as many as there are bins and coordinates, and the box that is too large
-- is one of the instance
abbrev pub ArePlacedBins : PlainInstance → FoundBins → Type 0
ArePlacedBins instance (LeastCount bins numbers tokens) = AreAllInBins instance numbers.items
ArePlacedBins instance (CountBetween refuted tokens bins numbers) = AreAllInBins instance numbers.items
ArePlacedBins instance (NoBin v i) = (v < box_count instance) × (i < dims instance)

abbrev pub IsPlacedSolution : PlainInstance → Solution → Type 0
IsPlacedSolution instance (Fit outcome) = IsPlaced instance (plain_outcome outcome)
IsPlacedSolution instance (Strip strip) = IsPlacedStrip instance strip
IsPlacedSolution instance (Bins bins) = ArePlacedBins instance bins
IsPlacedSolution instance (Knapsack choice) = Unit {0}
IsPlacedSolution instance (Reduced outcome) = IsPlaced instance (plain_outcome outcome)
IsPlacedSolution instance (ReducedStrip strip) = IsPlacedStrip instance strip

-- its status and its document are those of the job's answer for the instance, under these settings
pub record IsSolution (job : DocumentJob) (settings : Settings) (instance : PlainInstance) (solution : Solution) :
    Type 0 where
  pub status : status_of (answer_found solution) ≡ (document_answer job settings.budget settings.scales instance).status
  pub text : solution_text instance solution ≡ (document_answer job settings.budget settings.scales instance).text
  pub placed : IsPlacedSolution instance solution
