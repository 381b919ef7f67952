-- Within the limits, and without a fault, the answer that was written is the one that the instance has, and it decides.
use Rattle.std.proofs.Common.{ℕ, ◌≡◌, ◌+◌, ◌≤◌, inl, inr, List, [], ◌++◌, length, length-append, append-nil, arith, sym}
use Rattle.std.proofs.Common.{ap, ◌∙◌, subst, Option, Some, None, Ok, String, Global, Result}
use Rattle.std.proofs.lemmas.Bool.{true≢false}
use Rattle.std.specs.Io.KnownBytes.{IsAtEnd}
use Rattle.packing_terms.specs.Packing.{PlainInstance}
use Rattle.packing_terms.specs.Limits.{IsInstance}
use Rattle.packing_terms.proofs.Internal.{written_internal, some_dimension}
use Rattle.tree_terms.proofs.Counts.{class_count}
use Rattle.tree_terms.proofs.Heights.{spent_from, enough_from}
use Rattle.tree_terms.proofs.SpentRuns.{bins_spent, bins_enough, value_spent, value_enough}
use Rattle.text_terms.specs.Texts.{text_instance}
use Rattle.answer_terms.specs.declared.job.DocumentJob.{DocumentJob}
use Rattle.answer_terms.specs.declared.job.DocumentJob.TheVariants.{Solving as Solves, Reduced as Reduces}
use Rattle.answer_terms.specs.declared.job.ReducedJob.TheVariants.{Fit as FromFit, Strip as FromStrip}
use Rattle.answer_streams.specs.declared.tree_start.TreeStart.{TreeStart}
use Rattle.answer_streams.specs.declared.tree_start.TreeStart.TheVariants.{Nothing, Facts}
use Rattle.answer_streams.specs.Headed.{start_facts}
use Rattle.text_terms.specs.declared.claim.SolvingJob.TheVariants.{Fit, Strip, Bins, Knapsack}
use Rattle.answer_terms.specs.Solved.{JobAnswer}
use Rattle.pack_streams.specs.Moves.{Consumed, Appended}
use Rattle.pack_words.specs.declared.job.JobWords.{JobWords}
use Rattle.pack_words.proofs.Walking.{some_inj}
use Rattle.text_terms.specs.declared.settings.Settings.{Settings}
use Rattle.pack_command.specs.Asked.{document_job, AsksToSolve}
use Rattle.pack_command.specs.Answered.{answer_for, class_bound, IsDecided, IsBudgetSufficient}
use Rattle.packing_terms.specs.Facts.{symmetry_facts}
use Rattle.pack_command.specs.Decides.{IsJobDecided, AsksWhetherFits, StatusDecidesFit}
use Rattle.pack_command.specs.Reductions.{IsReducedDecided}
use Rattle.pack_command.specs.Strips.{IsStripDecided}
use Rattle.pack_command.specs.FewestBins.{AreBinsDecided}
use Rattle.pack_command.specs.GreatestValues.{IsValueDecided}
use Rattle.pack_command.specs.Run.{IsWritten}
use Rattle.pack_command.proofs.Decided.{fit_decided}
use Rattle.pack_command.proofs.ReducedDecided.{reduced_decided}
use Rattle.pack_command.proofs.StripDecided.{strip_decided}
use Rattle.pack_command.proofs.BinsDecided.{bins_decided}
use Rattle.pack_command.proofs.ValueDecided.{value_decided}

ok_same : {A B : Type 0} (x y : A) (r : Result A B) → r ≡ Ok x → r ≡ Ok y → x ≡ y
ok_same x y r e f = cc

-- what was taken up to the end is all that the source held
pub taken_all : (old new : Option (List ℕ)) (bytes stated : List ℕ) → old ≡ Some stated → Consumed old new bytes → IsAtEnd new
    → bytes ≡ stated
taken_all old None bytes stated is gives end = absurd (cc (is, gives))
taken_all old (Some rest) bytes stated is gives end =
    let whole : bytes ++ rest ≡ stated = some_inj (sym gives ∙ is) in
    let none : bytes ++ rest ≡ bytes = ap (λ r. bytes ++ r) end ∙ append-nil bytes in
    sym none ∙ whole

-- no more can be taken than the source held
pub taken_within : (old new : Option (List ℕ)) (bytes stated : List ℕ) → old ≡ Some stated → Consumed old new bytes
    → length bytes ≤ length stated
taken_within old None bytes stated is gives = absurd (cc (is, gives))
taken_within old (Some rest) bytes stated is gives =
    let whole : bytes ++ rest ≡ stated = some_inj (sym gives ∙ is) in
    omega (arith, ap length whole, length-append bytes rest)

-- the words ask for one job
job_same : (words : List (String Global)) (j k : DocumentJob) (a b : Settings) → AsksToSolve words j a
    → AsksToSolve words k b → j ≡ k
job_same words j k a b x y =
    let same : x.asked ≡ y.asked = some_inj (sym x.is ∙ y.is) in
    some_inj (sym x.job_is ∙ (ap (λ (w : JobWords). document_job w.job) same ∙ y.job_is))

-- with one list of settings
settings_same : (words : List (String Global)) (j k : DocumentJob) (a b : Settings) → AsksToSolve words j a
    → AsksToSolve words k b → a ≡ b
settings_same words j k a b x y =
    let same : x.asked ≡ y.asked = some_inj (sym x.is ∙ y.is) in
    sym x.with_settings ∙ ap (λ (w : JobWords). w.settings) same ∙ y.with_settings

module _ (words : List (String Global)) (old new sunk_old sunk_new : Option (List ℕ)) (status : ℕ) (settings : Settings)
    (stated : List ℕ) (instance : PlainInstance)
    (w : IsWritten words old new sunk_old sunk_new status) (is : old ≡ Some stated)
    (read : text_instance stated ≡ Ok instance) where
  same_instance : (w.answered).instance ≡ instance
  same_instance =
      let a = w.answered in
      let bytes_are : a.bytes ≡ stated = taken_all old new a.bytes stated is a.input.taken a.input.ended in
      let read_told : text_instance stated ≡ Ok a.instance =
      subst (λ b. text_instance b ≡ Ok a.instance) bytes_are a.read in
      ok_same _ _ _ read_told read

  same_answer : (job : DocumentJob) → AsksToSolve words job settings
      → answer_for (w.answered).job (w.answered).settings (w.answered).instance ≡ answer_for job settings instance
  same_answer job asks =
      let a = w.answered in
      ap (λ i. answer_for a.job a.settings i) same_instance
      ∙ (ap (λ (x : Settings). answer_for a.job x instance) (settings_same words _ _ _ _ a.asked asks)
      ∙ ap (λ (j : DocumentJob). answer_for j settings instance) (job_same words _ _ _ _ a.asked asks))

  -- the answer that was written is that of the instance that the source held
  pub written_answers : (job : DocumentJob) → AsksToSolve words job settings
      → (status ≡ (answer_for job settings instance).status)
      × Appended sunk_old sunk_new (answer_for job settings instance).text
  written_answers job asks =
      let a = w.answered in
      let e = same_answer job asks in
      let d : w.document ≡ (answer_for job settings instance).text = a.document_is ∙ ap (λ (x : JobAnswer). x.text) e in
      (a.status_is ∙ ap (λ (x : JobAnswer). x.status) e, subst (λ t. Appended sunk_old sunk_new t) d w.written)

  pub written_limits : IsInstance instance
  written_limits = subst IsInstance same_instance (w.answered).limits

  -- and it decides
  pub written_decides : AsksToSolve words (Solves Fit) settings → IsDecided instance settings sunk_old sunk_new status
  written_decides asks =
      let a = written_answers (Solves Fit) asks in
      subst (λ s. IsDecided instance settings sunk_old sunk_new s) (sym a.0)
      (fit_decided settings instance written_limits sunk_old sunk_new a.1)

  pub written_least : AsksToSolve words (Solves Strip) settings
      → IsStripDecided Nothing instance settings sunk_old sunk_new status
  written_least asks =
      let a = written_answers (Solves Strip) asks in
      subst (λ s. IsStripDecided Nothing instance settings sunk_old sunk_new s) (sym a.0)
      (strip_decided Nothing settings instance written_limits sunk_old sunk_new a.1)

  pub written_reduced_least : AsksToSolve words (Reduces FromStrip) settings
      → IsStripDecided Facts instance settings sunk_old sunk_new status
  written_reduced_least asks =
      let a = written_answers (Reduces FromStrip) asks in
      subst (λ s. IsStripDecided Facts instance settings sunk_old sunk_new s) (sym a.0)
      (strip_decided Facts settings instance written_limits sunk_old sunk_new a.1)

  pub written_fewest : AsksToSolve words (Solves Bins) settings
      → AreBinsDecided instance settings sunk_old sunk_new status
  written_fewest asks =
      let a = written_answers (Solves Bins) asks in
      subst (λ s. AreBinsDecided instance settings sunk_old sunk_new s) (sym a.0)
      (bins_decided settings instance written_limits sunk_old sunk_new a.1)

  pub written_greatest : AsksToSolve words (Solves Knapsack) settings
      → IsValueDecided instance settings sunk_old sunk_new status
  written_greatest asks =
      let a = written_answers (Solves Knapsack) asks in
      subst (λ s. IsValueDecided instance settings sunk_old sunk_new s) (sym a.0)
      (value_decided settings instance written_limits sunk_old sunk_new a.1)

  pub written_reduced : AsksToSolve words (Reduces FromFit) settings
      → IsReducedDecided instance settings sunk_old sunk_new status
  written_reduced asks =
      let a = written_answers (Reduces FromFit) asks in
      subst (λ s. IsReducedDecided instance settings sunk_old sunk_new s) (sym a.0)
      (reduced_decided settings instance written_limits sunk_old sunk_new a.1)

  pub written_job : (job : DocumentJob) → AsksToSolve words job settings
      → IsJobDecided job instance settings sunk_old sunk_new status
  written_job (Solves Fit) asks = written_decides asks
  written_job (Solves Strip) asks = written_least asks
  written_job (Solves Bins) asks = written_fewest asks
  written_job (Solves Knapsack) asks = written_greatest asks
  written_job (Reduces FromFit) asks = written_reduced asks
  written_job (Reduces FromStrip) asks = written_reduced_least asks

  -- with a budget that is enough the status of `fit` says exactly whether the instance fits
  fit_exactly : class_bound instance ≤ settings.budget + 1 → IsDecided instance settings sunk_old sunk_new status
      → StatusDecidesFit instance status
  fit_exactly enough (inl y) =
      let e = y.status_is in
      record {
        yes = ((λ zero. (y.places, y.packing)), (λ fits. e));
        no = ((λ one. absurd (omega (arith, e, one))), (λ none. absurd (none (y.places, y.packing))));
      }
  fit_exactly enough (inr (inl n)) =
      let e = n.status_is in
      record {
        yes = ((λ zero. absurd (omega (arith, e, zero))), (λ fits. absurd (n.none fits)));
        no = ((λ one. n.none), (λ none. e));
      }
  fit_exactly enough (inr (inr u)) =
      let p = u.past in
      let b = class_count instance (some_dimension instance (written_internal instance written_limits)) []
      settings.scales in
      absurd (omega (arith, p, b, enough))

  reduced_exactly : class_bound instance ≤ settings.budget + 1
      → IsReducedDecided instance settings sunk_old sunk_new status → StatusDecidesFit instance status
  reduced_exactly enough (inl y) =
      let e = y.status_is in
      record {
        yes = ((λ zero. (y.places, y.packing)), (λ fits. e));
        no = ((λ one. absurd (omega (arith, e, one))), (λ none. absurd (none (y.places, y.packing))));
      }
  reduced_exactly enough (inr (inl n)) =
      let e = n.status_is in
      record {
        yes = ((λ zero. absurd (omega (arith, e, zero))), (λ fits. absurd (n.none fits)));
        no = ((λ one. n.none), (λ none. e));
      }
  reduced_exactly enough (inr (inr u)) =
      let p = u.past in
      let b = class_count instance (some_dimension instance (written_internal instance written_limits))
      (symmetry_facts instance) settings.scales in
      absurd (omega (arith, p, b, enough))

  pub written_fits : (job : DocumentJob) → AsksWhetherFits job → AsksToSolve words job settings
      → class_bound instance ≤ settings.budget + 1 → StatusDecidesFit instance status
  written_fits (Solves Fit) fits asks enough = fit_exactly enough (written_decides asks)
  written_fits (Solves Strip) fits asks enough = absurd fits
  written_fits (Solves Bins) fits asks enough = absurd fits
  written_fits (Solves Knapsack) fits asks enough = absurd fits
  written_fits (Reduces FromFit) fits asks enough = reduced_exactly enough (written_reduced asks)
  written_fits (Reduces FromStrip) fits asks enough = absurd fits

  fit_enough : IsBudgetSufficient (Solves Fit) instance settings.budget → IsDecided instance settings sunk_old sunk_new status
      → ¬ (status ≡ 3)
  fit_enough enough (inl y) three = let e = y.status_is in omega (arith, e, three)
  fit_enough enough (inr (inl n)) three = let e = n.status_is in omega (arith, e, three)
  fit_enough enough (inr (inr u)) three =
      let p = u.past in
      let b = class_count instance (some_dimension instance (written_internal instance written_limits)) []
      settings.scales in
      omega (arith, p, b, enough)

  reduced_enough : IsBudgetSufficient (Reduces FromFit) instance settings.budget
      → IsReducedDecided instance settings sunk_old sunk_new status → ¬ (status ≡ 3)
  reduced_enough enough (inl y) three = let e = y.status_is in omega (arith, e, three)
  reduced_enough enough (inr (inl n)) three = let e = n.status_is in omega (arith, e, three)
  reduced_enough enough (inr (inr u)) three =
      let p = u.past in
      let b = class_count instance (some_dimension instance (written_internal instance written_limits))
      (symmetry_facts instance) settings.scales in
      omega (arith, p, b, enough)

  strip_enough : (start : TreeStart) → class_bound instance ≤ settings.budget + 1
      → IsStripDecided start instance settings sunk_old sunk_new status → ¬ (status ≡ 3)
  strip_enough start enough (inl l) three = let e = l.status_is in omega (arith, e, three)
  strip_enough start enough (inr (inl b)) three =
      true≢false (sym ((spent_from instance (start_facts start instance) settings.budget
      settings.scales).1 b.past)
      ∙ enough_from instance (start_facts start instance) settings.budget settings.scales
      (written_internal instance written_limits) enough)
  strip_enough start enough (inr (inr n)) three = let e = n.status_is in omega (arith, e, three)

  fewest_enough : IsBudgetSufficient (Solves Bins) instance settings.budget
      → AreBinsDecided instance settings sunk_old sunk_new status → ¬ (status ≡ 3)
  fewest_enough enough (inl l) three = let e = l.status_is in omega (arith, e, three)
  fewest_enough enough (inr (inl b)) three =
      true≢false (sym ((bins_spent instance settings.budget settings.scales).1 b.past)
      ∙ bins_enough instance (written_internal instance written_limits) settings.budget settings.scales enough)
  fewest_enough enough (inr (inr n)) three = let e = n.status_is in omega (arith, e, three)

  greatest_enough : IsBudgetSufficient (Solves Knapsack) instance settings.budget
      → IsValueDecided instance settings sunk_old sunk_new status → ¬ (status ≡ 3)
  greatest_enough enough (inl l) three = let e = l.status_is in omega (arith, e, three)
  greatest_enough enough (inr b) three =
      true≢false (sym ((value_spent instance settings.budget settings.scales).1 b.past)
      ∙ value_enough instance (written_internal instance written_limits) settings.budget settings.scales enough)

  -- a budget that bounds every count is enough
  pub written_enough : (job : DocumentJob) → AsksToSolve words job settings → IsBudgetSufficient job instance settings.budget
      → ¬ (status ≡ 3)
  written_enough (Solves Fit) asks enough = fit_enough enough (written_decides asks)
  written_enough (Solves Strip) asks enough = strip_enough Nothing enough (written_least asks)
  written_enough (Reduces FromStrip) asks enough = strip_enough Facts enough (written_reduced_least asks)
  written_enough (Solves Bins) asks enough = fewest_enough enough (written_fewest asks)
  written_enough (Solves Knapsack) asks enough = greatest_enough enough (written_greatest asks)
  written_enough (Reduces FromFit) asks enough = reduced_enough enough (written_reduced asks)
