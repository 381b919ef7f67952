-- What the answers of the jobs with proposals say.
use Rattle.std.proofs.Common.{ℕ, ◌≡◌, ◌+◌, ◌≤◌, sym, subst, List, String, Global}
use Rattle.std.specs.declared.option.Option.{Option}
use Rattle.packing_terms.specs.Packing.{PlainInstance}
use Rattle.packing_terms.specs.Limits.{IsInstance}
use Rattle.text_terms.specs.declared.settings.Settings.{Settings}
use Rattle.text_terms.specs.declared.claim.SolvingJob.{SolvingJob}
use Rattle.text_terms.specs.declared.claim.SolvingJob.TheVariants.{Fit as SolvesFit, Strip as SolvesStrip}
use Rattle.text_terms.specs.declared.claim.SolvingJob.TheVariants.{Bins as SolvesBins, Knapsack as SolvesKnapsack}
use Rattle.answer_terms.specs.declared.job.DocumentJob.TheVariants.{Solving as Solves}
use Rattle.answer_terms.specs.Answers.{Answer, answer_text, status_of}
use Rattle.pack_streams.specs.Moves.{Appended}
use Rattle.pack_command.specs.Answered.{class_bound}
use Rattle.pack_command.specs.Asked.{ProposedJob, Plain, IsProposalRun}
use Rattle.pack_command.specs.Decides.{StatusDecidesFit}
use Rattle.pack_command.specs.Own.{IsOutputVerified}
use Rattle.pack_command.specs.Proposed.{IsProposed, IsProposedFound, IsFound, IsProposedWritten, IsProposedDecided}
use Rattle.pack_command.specs.Proposed.{IsBudgetSufficientProposed}
use Rattle.pack_command.proofs.OneJob.{proposed_settings, proposed_job}
use Rattle.pack_command.proofs.ProposedBins.{bins_own, bins_proposed_decided, bins_within}
use Rattle.pack_command.proofs.ProposedChoice.{choice_own, choice_proposed_decided, choice_within}
use Rattle.pack_command.proofs.ProposedFit.{fit_own, fit_proposed_decided, fit_within, fit_proposed_exactly}
use Rattle.pack_command.proofs.ProposedOwn.{own_proposed}
use Rattle.pack_command.proofs.ProposedStrip.{strip_own, strip_proposed_decided, strip_within}
use Rattle.pack_command.proofs.Written.{taken_all}

-- ---- of an answer

module _ (settings : Settings) (instance : PlainInstance) (limits : IsInstance instance) (answer : Answer)
    (old new : Option (List ℕ))
    (written : Appended old new (answer_text instance answer)) where
  pub job_decided : (job : SolvingJob) → IsProposed job settings instance answer
      → IsProposedDecided job instance settings old new (status_of answer)
  job_decided SolvesFit is = fit_proposed_decided settings instance limits answer is old new written
  job_decided SolvesStrip is = strip_proposed_decided settings instance answer is old new written
  job_decided SolvesBins is = bins_proposed_decided settings instance answer is old new written
  job_decided SolvesKnapsack is = choice_proposed_decided settings instance answer is old new written

  pub job_own : (job : SolvingJob) → IsProposed job settings instance answer
      → IsOutputVerified (Solves job) instance old new (status_of answer)
  job_own SolvesFit is = own_proposed SolvesFit instance limits answer (fit_own settings instance limits answer is)
      old new written
  job_own SolvesStrip is = own_proposed SolvesStrip instance limits answer (strip_own settings instance answer is)
      old new written
  job_own SolvesBins is = own_proposed SolvesBins instance limits answer (bins_own settings instance answer is)
      old new written
  job_own SolvesKnapsack is = own_proposed SolvesKnapsack instance limits answer
      (choice_own settings instance answer is limits) old new written

-- ---- of the instance that the source holds

module _ (words : List (String Global)) (old new sunk_old sunk_new : Option (List ℕ)) (status : ℕ) (job : ProposedJob)
    (settings : Settings) (instance : PlainInstance)
    (s : IsProposalRun words old job settings instance)
    (w : IsProposedWritten words old new sunk_old sunk_new status) where
  same_instance : w.instance ≡ instance
  same_instance =
      let a = w.answered in
      let same : a.bytes ≡ s.bytes = taken_all old new a.bytes s.bytes s.stated a.input.taken a.input.ended in
      let one = a.read in
      let two = s.read in
      cc (same, one, two)

  pub told_limits : IsInstance instance
  told_limits = subst IsInstance same_instance (w.answered).limits

  pub told_found : IsFound job settings instance status w.document
  told_found =
      subst (λ (i : PlainInstance). IsFound job settings i status w.document) same_instance
      (subst (λ (t : Settings). IsFound job t w.instance status w.document)
      (proposed_settings words w.job job w.settings settings (w.answered).asked s.asks)
      (subst (λ (j : ProposedJob). IsFound j w.settings w.instance status w.document)
      (proposed_job words w.job job w.settings settings (w.answered).asked s.asks) (w.answered).is))

module _ (words : List (String Global)) (old new sunk_old sunk_new : Option (List ℕ)) (status : ℕ) (job : SolvingJob)
    (settings : Settings) (instance : PlainInstance)
    (s : IsProposalRun words old (Plain job) settings instance)
    (w : IsProposedWritten words old new sunk_old sunk_new status) where
  limits : IsInstance instance
  limits = told_limits words old new sunk_old sunk_new status (Plain job) settings instance s w

  found : IsProposedFound job settings instance status w.document
  found = told_found words old new sunk_old sunk_new status (Plain job) settings instance s w

  written : Appended sunk_old sunk_new (answer_text instance found.answer)
  written = subst (λ (document : List ℕ). Appended sunk_old sunk_new document) found.document_is w.written

  pub proposed_decided : IsProposedDecided job instance settings sunk_old sunk_new status
  proposed_decided =
      subst (λ (n : ℕ). IsProposedDecided job instance settings sunk_old sunk_new n) (sym found.status_is)
      (job_decided settings instance limits found.answer sunk_old sunk_new written job found.is)

  pub proposed_own : IsOutputVerified (Solves job) instance sunk_old sunk_new status
  proposed_own =
      subst (λ (n : ℕ). IsOutputVerified (Solves job) instance sunk_old sunk_new n) (sym found.status_is)
      (job_own settings instance limits found.answer sunk_old sunk_new written job found.is)

  pub proposed_limits : IsInstance instance
  proposed_limits = limits

within_by : (job : SolvingJob) (settings : Settings) (instance : PlainInstance) (old new : Option (List ℕ)) (status : ℕ)
    → IsProposedDecided job instance settings old new status
    → IsBudgetSufficientProposed job settings instance → ¬ (status ≡ 3)
within_by SolvesFit settings instance old new status d ample = fit_within settings instance old new status d ample
within_by SolvesStrip settings instance old new status d ample = strip_within settings instance old new status d ample
within_by SolvesBins settings instance old new status d ample = bins_within settings instance old new status d ample
within_by SolvesKnapsack settings instance old new status d ample =
    choice_within settings instance old new status d ample

module _ (words : List (String Global)) (old new sunk_old sunk_new : Option (List ℕ)) (status : ℕ) where
  pub proposed_within : (job : SolvingJob) (settings : Settings) (instance : PlainInstance)
      → IsProposalRun words old (Plain job) settings instance
      → IsProposedWritten words old new sunk_old sunk_new status → IsBudgetSufficientProposed job settings instance → ¬ (status ≡ 3)
  proposed_within job settings instance s w ample =
      within_by job settings instance sunk_old sunk_new status
      (proposed_decided words old new sunk_old sunk_new status job settings instance s w) ample

  pub proposed_exactly : (settings : Settings) (instance : PlainInstance)
      → IsProposalRun words old (Plain SolvesFit) settings instance
      → IsProposedWritten words old new sunk_old sunk_new status → class_bound instance ≤ settings.budget + 1
      → StatusDecidesFit instance status
  proposed_exactly settings instance s w enough =
      fit_proposed_exactly settings instance sunk_old sunk_new status
      (proposed_limits words old new sunk_old sunk_new status SolvesFit settings instance s w) enough
      (proposed_decided words old new sunk_old sunk_new status SolvesFit settings instance s w)
