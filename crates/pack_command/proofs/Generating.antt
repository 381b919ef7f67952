-- What `make` did is the answer of the number that the words ask for, and that is true of its instance.
use Rattle.std.proofs.Common.{ℕ, ◌≡◌, ◌≤◌, ◌<◌, ◌+◌, ◌↔◌, inl, inr, arith, refl, sym, ap, ap₂, ◌∙◌, subst, List, []}
use Rattle.std.proofs.Common.{Option, Some, None, String, Global}
use Rattle.packing_terms.specs.Packing.{PlainInstance, Fits}
use Rattle.packing_terms.specs.Limits.{IsInstance}
use Rattle.packing_terms.specs.Generator.{made_instance}
use Rattle.packing_terms.proofs.Internal.{written_internal, some_dimension}
use Rattle.packing_terms.proofs.Made.{made_within}
use Rattle.tree_terms.proofs.Counts.{class_count}
use Rattle.answer_terms.specs.declared.job.DocumentJob.{DocumentJob}
use Rattle.answer_terms.specs.declared.job.DocumentJob.TheVariants.{Solving as Solves}
use Rattle.text_terms.specs.declared.claim.SolvingJob.TheVariants.{Fit}
use Rattle.answer_terms.specs.Solved.{JobAnswer, solved}
use Rattle.pack_streams.specs.Moves.{Appended}
use Rattle.pack_words.specs.declared.job.Job.TheVariants.{Check, Make}
use Rattle.pack_words.specs.declared.job.JobWords.{JobWords}
use Rattle.pack_words.proofs.Walking.{some_inj}
use Rattle.text_terms.specs.declared.settings.Settings.{Settings}
use Rattle.pack_command.specs.Answered.{answer_for, branchings, class_bound, IsAnswerStatus, IsDecided}
use Rattle.pack_command.specs.Asked.{document_job, task_job, AsksToSolve, AsksCheck, AsksTask, AsksToMake}
use Rattle.pack_command.specs.Readings.{DocumentTask, Audits, Explains}
use Rattle.pack_command.specs.Ends.{IsJobCompleted, IsJobAborted}
use Rattle.pack_command.specs.Generated.{made_for, IsMade, IsSummaryPartlyWritten, IsMakeOutput}
use Rattle.pack_command.specs.Run.{Asks, IsStopped}
use Rattle.pack_command.specs.Stops.{stop_status}
use Rattle.pack_command.specs.declared.stop.Stop.{Stop}
use Rattle.pack_command.specs.declared.stop.Stop.TheVariants.{Words, TooLong, Text, Dimensions, ReadFault, WriteFault}
use Rattle.pack_command.specs.declared.stop.Stop.TheVariants.{NoMemory}
use Rattle.pack_command.proofs.Decided.{fit_decided}
use Rattle.pack_command.proofs.OneJob.{front_makes, proposed_makes}

-- no words ask for `make` and for another job
pub no_solve : (words : List (String Global)) (number : ℕ) (settings : Settings) (job : DocumentJob) (others : Settings)
    → AsksToMake words number settings → AsksToSolve words job others → ⊥
no_solve words number settings job others make solve =
    let same : make.asked ≡ solve.asked = some_inj (sym make.is ∙ solve.is) in
    let none : None ≡ Some job = sym (sym (ap (λ (w : JobWords). document_job w.job) same) ∙ ap document_job make.job)
    ∙ solve.job_is in
    absurd (cc (none))

pub no_check : (words : List (String Global)) (number : ℕ) (settings : Settings) → AsksToMake words number settings
    → AsksCheck words → ⊥
no_check words number settings make check =
    let same : make.asked ≡ check.asked = some_inj (sym make.is ∙ check.is) in
    let both : Make ≡ Check = sym make.job ∙ (ap (λ (w : JobWords). w.job) same ∙ check.job) in
    absurd (cc (both))

-- no words ask for what is done with a whole document, and for another job
pub no_task : (words : List (String Global)) (number : ℕ) (settings : Settings) (task : DocumentTask)
    → AsksToMake words number settings → AsksTask words task → ⊥
no_task words number settings task make asks =
    go task (sym make.job ∙ (ap (λ (w : JobWords). w.job) (some_inj (sym make.is ∙ asks.is)) ∙ asks.job))
  where
    go : (t : DocumentTask) → Make ≡ task_job t → ⊥
    go Audits e = absurd (cc (e))
    go Explains e = absurd (cc (e))

pub task_solves : (words : List (String Global)) (job : DocumentJob) (settings : Settings) (task : DocumentTask)
    → AsksToSolve words job settings → AsksTask words task → ⊥
task_solves words job settings task solve asks =
    let same : solve.asked ≡ asks.asked = some_inj (sym solve.is ∙ asks.is) in
    go task (sym (ap (λ (w : JobWords). document_job w.job) same ∙ ap document_job asks.job) ∙ solve.job_is)
  where
    go : (t : DocumentTask) → document_job (task_job t) ≡ Some job → ⊥
    go Audits e = absurd (cc (e))
    go Explains e = absurd (cc (e))

pub task_checks : (words : List (String Global)) (task : DocumentTask) → AsksCheck words → AsksTask words task → ⊥
task_checks words task check asks =
    go task (sym check.job ∙ (ap (λ (w : JobWords). w.job) (some_inj (sym check.is ∙ asks.is)) ∙ asks.job))
  where
    go : (t : DocumentTask) → Check ≡ task_job t → ⊥
    go Audits e = absurd (cc (e))
    go Explains e = absurd (cc (e))

-- the words determine what is done
pub same_task : (words : List (String Global)) (one other : DocumentTask) → AsksTask words one → AsksTask words other
    → one ≡ other
same_task words one other a b =
    go one other (sym a.job ∙ (ap (λ (w : JobWords). w.job) (some_inj (sym a.is ∙ b.is)) ∙ b.job))
  where
    go : (s t : DocumentTask) → task_job s ≡ task_job t → s ≡ t
    go Audits Audits e = refl
    go Explains Explains e = refl
    go Audits Explains e = absurd (cc (e))
    go Explains Audits e = absurd (cc (e))

number_same : (words : List (String Global)) (n m : ℕ) (a b : Settings) → AsksToMake words n a
    → AsksToMake words m b → n ≡ m
number_same words n m a b x y =
    let same : x.asked ≡ y.asked = some_inj (sym x.is ∙ y.is) in
    sym x.with_number ∙ (ap (λ (w : JobWords). w.number) same ∙ y.with_number)

settings_same : (words : List (String Global)) (n m : ℕ) (a b : Settings) → AsksToMake words n a
    → AsksToMake words m b → a ≡ b
settings_same words n m a b x y =
    let same : x.asked ≡ y.asked = some_inj (sym x.is ∙ y.is) in
    sym x.with_settings ∙ (ap (λ (w : JobWords). w.settings) same ∙ y.with_settings)

-- ---- the answer is true

-- what the status of `fit` says of an instance
pub record IsToldBy (instance : PlainInstance) (settings : Settings) (status : ℕ) : Type 0 where
  pub yes : status ≡ 0 → Fits instance
  pub no : status ≡ 1 → ¬ Fits instance
  pub undecided : status ≡ 3 ↔ settings.budget < branchings settings instance

run_with_workers : (instance : PlainInstance) (settings : Settings) (old new : Option (List ℕ)) (status : ℕ)
    → IsDecided instance settings old new status
    → IsToldBy instance settings status
run_with_workers instance settings old new status (inl y) =
    let s = y.status_is in
    let w = y.within in
    record {
      yes = (λ zero. (y.places, y.packing));
      no = (λ one. absurd (omega (arith, s, one)));
      undecided = ((λ three. absurd (omega (arith, s, three))), (λ past. absurd (omega (arith, w, past))));
    }
run_with_workers instance settings old new status (inr (inl n)) =
    let s = n.status_is in
    let w = n.within in
    record {
      yes = (λ zero. absurd (omega (arith, s, zero)));
      no = (λ one. n.none);
      undecided = ((λ three. absurd (omega (arith, s, three))), (λ past. absurd (omega (arith, w, past))));
    }
run_with_workers instance settings old new status (inr (inr u)) =
    let s = u.status_is in
    record {
      yes = (λ zero. absurd (omega (arith, s, zero)));
      no = (λ one. absurd (omega (arith, s, one)));
      undecided = ((λ three. u.past), (λ past. s));
    }

fit_told : (instance : PlainInstance) (settings : Settings) → IsInstance instance
    → IsToldBy instance settings (answer_for (Solves Fit) settings instance).status
fit_told instance settings limits =
    run_with_workers instance settings None None _ (fit_decided settings instance limits None None refl)

made_status : (number : ℕ) (settings : Settings) → (answer_for (Solves Fit) settings (made_instance number)).status
    ≡ (made_for number settings).status
unfolding solved
made_status number settings = refl

made_told : (number : ℕ) (settings : Settings) (status : ℕ) → status ≡ (made_for number settings).status
    → IsToldBy (made_instance number) settings status
made_told number settings status is =
    subst (λ (s : ℕ). IsToldBy (made_instance number) settings s) (made_status number settings ∙ sym is)
    (fit_told (made_instance number) settings (made_within number))

-- a budget that bounds the count is enough
made_enough : (number : ℕ) (settings : Settings) (status : ℕ) → IsToldBy (made_instance number) settings status
    → class_bound (made_instance number) ≤ settings.budget + 1 → ¬ (status ≡ 3)
made_enough number settings status stated enough three =
    let past = stated.undecided.0 three in
    let bound = class_count (made_instance number)
    (some_dimension (made_instance number) (written_internal (made_instance number) (made_within number))) []
    settings.scales in
    omega (arith, past, bound, enough)

-- ---- what was done

module _ (words : List (String Global)) (old new sunk_old sunk_new : Option (List ℕ)) (number : ℕ) (settings : Settings)
    (asks : AsksToMake words number settings) where
  pub made_done : (status : ℕ) → IsJobCompleted words old new sunk_old sunk_new status
      → IsMade words old new sunk_old sunk_new status
  made_done status (inl w) = absurd
      (no_solve words number settings w.answered.job w.answered.settings asks w.answered.asked)
  made_done status (inr (inl c)) = absurd (no_check words number settings asks c.0)
  made_done status (inr (inr (inl m))) = m
  made_done status (inr (inr (inr (inl a)))) = absurd (no_task words number settings a.0 asks a.1)
  made_done status (inr (inr (inr (inr (inl f))))) =
      absurd (front_makes words number settings f.settings asks f.answered.asked)
  made_done status (inr (inr (inr (inr (inr p))))) =
      absurd (proposed_makes words number p.job settings p.settings asks p.answered.asked)

  same_made : (m : ℕ) (others : Settings) → AsksToMake words m others → made_for m others ≡ made_for number settings
  same_made m others asked =
      ap₂ (λ (n : ℕ) (s : Settings). made_for n s) (number_same words m number others settings asked asks)
      (settings_same words m number others settings asked asks)

  pub made_exactly : (status : ℕ) → IsJobCompleted words old new sunk_old sunk_new status
      → IsMakeOutput number settings sunk_old sunk_new status
  made_exactly status done =
      let m = made_done status done in
      let same = same_made m.number m.settings m.asked in
      let is : status ≡ (made_for number settings).status = m.status_is ∙ ap (λ (a : JobAnswer). a.status) same in
      let stated = made_told number settings status is in
      record {
        status_is = is;
        written = subst (λ (a : JobAnswer). Appended sunk_old sunk_new a.text) same m.written;
        yes = stated.yes;
        no = stated.no;
        undecided = stated.undecided;
        enough = made_enough number settings status stated;
      }

  solves : Asks words → ⊥
  solves a = no_solve words number settings a.0 a.1 asks a.2

  stopped : (stop : Stop) → IsStopped words old new sunk_old sunk_new stop → ¬ (stop ≡ WriteFault)
      → ¬ (stop ≡ NoMemory) → ⊥
  stopped Words s w m = absurd (cc (s.0, asks.is))
  stopped TooLong s w m = solves s.0
  stopped (Text fault) s w m = solves s.0
  stopped Dimensions s w m = s
  stopped ReadFault s w m = solves s.0
  stopped WriteFault s w m = w refl
  stopped NoMemory s w m = m refl

  cut : (stop : Stop) (n : ℕ) (others : Settings) → IsSummaryPartlyWritten n others sunk_old sunk_new stop → ¬ (stop ≡ WriteFault)
      → ¬ (stop ≡ NoMemory) → ⊥
  cut Words n others c w m = c
  cut TooLong n others c w m = c
  cut (Text fault) n others c w m = c
  cut Dimensions n others c w m = c
  cut ReadFault n others c w m = c
  cut WriteFault n others c w m = w refl
  cut NoMemory n others c w m = m refl

  -- it doesn't end otherwise
  pub never_unmade : (stop : Stop) → IsJobAborted words old new sunk_old sunk_new stop → ¬ (stop ≡ WriteFault)
      → ¬ (stop ≡ NoMemory) → ⊥
  never_unmade stop (inl s) = stopped stop s
  never_unmade stop (inr (inl c)) = λ w m. absurd (no_check words number settings asks c.0)
  never_unmade stop (inr (inr (inl u))) = cut stop u.number u.settings u.cut
  never_unmade stop (inr (inr (inr (inl a)))) = λ w m. absurd (no_task words number settings a.0 asks a.1)
  never_unmade stop (inr (inr (inr (inr (inl f))))) = λ w m. absurd (front_makes words number settings f.0.0 asks f.0.1)
  never_unmade stop (inr (inr (inr (inr (inr p))))) =
      λ w m. absurd (proposed_makes words number p.0.0 settings p.0.1 asks p.0.2)

  -- in particular by no failed read
  pub never_broken_off : (stop : Stop) → IsJobAborted words old new sunk_old sunk_new stop → ¬ (stop_status stop ≡ 4)
  never_broken_off stop undone four =
      never_unmade stop undone (λ e. other (ap stop_status e)) (λ e. further (ap stop_status e))
    where
      other : stop_status stop ≡ 5 → ⊥
      other five = omega (arith, four, five)

      further : stop_status stop ≡ 6 → ⊥
      further six = omega (arith, four, six)

-- and an answer has another status than a failed read
pub never_four : (status : ℕ) → IsAnswerStatus status → ¬ (status ≡ 4)
never_four status (inl e) four = omega (arith, e, four)
never_four status (inr (inl e)) four = omega (arith, e, four)
never_four status (inr (inr e)) four = omega (arith, e, four)
