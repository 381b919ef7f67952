-- No words ask for `front` and for another job, or for a job with proposals and for another.
use Rattle.std.proofs.Common.{ℕ, ◌≡◌, refl, sym, ap, ◌∙◌, List, Some, None, String, Global}
use Rattle.answer_terms.specs.declared.job.DocumentJob.{DocumentJob}
use Rattle.pack_words.specs.declared.job.Job.TheVariants.{Check, Make, Front}
use Rattle.pack_words.specs.declared.job.JobWords.{JobWords}
use Rattle.pack_words.proofs.Walking.{some_inj}
use Rattle.text_terms.specs.declared.settings.Settings.{Settings}
use Rattle.pack_command.specs.Asked.{document_job, task_job, AsksToSolve, AsksCheck, AsksTask, AsksToMake, AsksFront}
use Rattle.pack_command.specs.Asked.{ProposedJob, Plain, ValueBounds, HeightBounds, job_proposed, AsksProposed}
use Rattle.pack_command.specs.Readings.{DocumentTask, Audits, Explains}

pub front_solves : (words : List (String Global)) (job : DocumentJob) (settings others : Settings)
    → AsksToSolve words job settings → AsksFront words others → ⊥
front_solves words job settings others solve front =
    let same : solve.asked ≡ front.asked = some_inj (sym solve.is ∙ front.is) in
    let none : None ≡ Some job = sym (ap (λ (w : JobWords). document_job w.job) same ∙ ap document_job front.job)
    ∙ solve.job_is in
    absurd (cc (none))

pub front_checks : (words : List (String Global)) (settings : Settings) → AsksFront words settings → AsksCheck words → ⊥
front_checks words settings front check =
    let same : front.asked ≡ check.asked = some_inj (sym front.is ∙ check.is) in
    let both : Front ≡ Check = sym front.job ∙ (ap (λ (w : JobWords). w.job) same ∙ check.job) in
    absurd (cc (both))

pub front_tasks : (words : List (String Global)) (settings : Settings) (task : DocumentTask) → AsksFront words settings
    → AsksTask words task → ⊥
front_tasks words settings task front asks =
    go task (sym front.job ∙ (ap (λ (w : JobWords). w.job) (some_inj (sym front.is ∙ asks.is)) ∙ asks.job))
  where
    go : (t : DocumentTask) → Front ≡ task_job t → ⊥
    go Audits e = absurd (cc (e))
    go Explains e = absurd (cc (e))

pub front_makes : (words : List (String Global)) (number : ℕ) (settings others : Settings)
    → AsksToMake words number settings → AsksFront words others → ⊥
front_makes words number settings others make front =
    let same : make.asked ≡ front.asked = some_inj (sym make.is ∙ front.is) in
    let both : Make ≡ Front = sym make.job ∙ (ap (λ (w : JobWords). w.job) same ∙ front.job) in
    absurd (cc (both))

pub front_settings : (words : List (String Global)) (settings others : Settings) → AsksFront words settings
    → AsksFront words others → settings ≡ others
front_settings words settings others x y =
    let same : x.asked ≡ y.asked = some_inj (sym x.is ∙ y.is) in
    sym x.with_settings ∙ (ap (λ (w : JobWords). w.settings) same ∙ y.with_settings)

-- ---- jobs whose answer is proposed

none_solved : (job : ProposedJob) → document_job (job_proposed job) ≡ None
none_solved (Plain job) = refl
none_solved (ValueBounds proposals) = refl
none_solved (HeightBounds proposals) = refl

none_checked : (job : ProposedJob) → job_proposed job ≡ Check → ⊥
none_checked (Plain job) e = absurd (cc (e))
none_checked (ValueBounds proposals) e = absurd (cc (e))
none_checked (HeightBounds proposals) e = absurd (cc (e))

none_made : (job : ProposedJob) → Make ≡ job_proposed job → ⊥
none_made (Plain job) e = absurd (cc (e))
none_made (ValueBounds proposals) e = absurd (cc (e))
none_made (HeightBounds proposals) e = absurd (cc (e))

none_fronted : (job : ProposedJob) → Front ≡ job_proposed job → ⊥
none_fronted (Plain job) e = absurd (cc (e))
none_fronted (ValueBounds proposals) e = absurd (cc (e))
none_fronted (HeightBounds proposals) e = absurd (cc (e))

none_read : (job : ProposedJob) (task : DocumentTask) → job_proposed job ≡ task_job task → ⊥
none_read (Plain job) Audits e = absurd (cc (e))
none_read (Plain job) Explains e = absurd (cc (e))
none_read (ValueBounds proposals) Audits e = absurd (cc (e))
none_read (ValueBounds proposals) Explains e = absurd (cc (e))
none_read (HeightBounds proposals) Audits e = absurd (cc (e))
none_read (HeightBounds proposals) Explains e = absurd (cc (e))

one_proposed : (job other : ProposedJob) → job_proposed job ≡ job_proposed other → job ≡ other
one_proposed (Plain job) (Plain other) e = cc (e)
one_proposed (Plain job) (ValueBounds proposals) e = absurd (cc (e))
one_proposed (Plain job) (HeightBounds proposals) e = absurd (cc (e))
one_proposed (ValueBounds proposals) (Plain job) e = absurd (cc (e))
one_proposed (ValueBounds proposals) (ValueBounds others) e = cc (e)
one_proposed (ValueBounds proposals) (HeightBounds others) e = absurd (cc (e))
one_proposed (HeightBounds proposals) (Plain job) e = absurd (cc (e))
one_proposed (HeightBounds proposals) (ValueBounds others) e = absurd (cc (e))
one_proposed (HeightBounds proposals) (HeightBounds others) e = cc (e)

pub proposed_solves : (words : List (String Global)) (job : DocumentJob) (other : ProposedJob)
    (settings others : Settings) → AsksToSolve words job settings → AsksProposed words other others → ⊥
proposed_solves words job other settings others solve proposed =
    let same : solve.asked ≡ proposed.asked = some_inj (sym solve.is ∙ proposed.is) in
    let none : None ≡ Some job =
    sym (ap (λ (w : JobWords). document_job w.job) same ∙ (ap document_job proposed.job_is ∙ none_solved other))
    ∙ solve.job_is in
    absurd (cc (none))

pub proposed_checks : (words : List (String Global)) (job : ProposedJob) (settings : Settings)
    → AsksProposed words job settings → AsksCheck words → ⊥
proposed_checks words job settings proposed check =
    let same : proposed.asked ≡ check.asked = some_inj (sym proposed.is ∙ check.is) in
    none_checked job (sym proposed.job_is ∙ (ap (λ (w : JobWords). w.job) same ∙ check.job))

pub proposed_tasks : (words : List (String Global)) (job : ProposedJob) (settings : Settings) (task : DocumentTask)
    → AsksProposed words job settings → AsksTask words task → ⊥
proposed_tasks words job settings task proposed asks =
    none_read job task
    (sym proposed.job_is ∙ (ap (λ (w : JobWords). w.job) (some_inj (sym proposed.is ∙ asks.is)) ∙ asks.job))

pub proposed_makes : (words : List (String Global)) (number : ℕ) (job : ProposedJob) (settings others : Settings)
    → AsksToMake words number settings → AsksProposed words job others → ⊥
proposed_makes words number job settings others make proposed =
    let same : make.asked ≡ proposed.asked = some_inj (sym make.is ∙ proposed.is) in
    none_made job (sym make.job ∙ (ap (λ (w : JobWords). w.job) same ∙ proposed.job_is))

pub proposed_settings : (words : List (String Global)) (job other : ProposedJob) (settings others : Settings)
    → AsksProposed words job settings → AsksProposed words other others
    → settings ≡ others
proposed_settings words job other settings others x y =
    let same : x.asked ≡ y.asked = some_inj (sym x.is ∙ y.is) in
    sym x.with_settings ∙ (ap (λ (w : JobWords). w.settings) same ∙ y.with_settings)

pub proposed_job : (words : List (String Global)) (job other : ProposedJob) (settings others : Settings)
    → AsksProposed words job settings → AsksProposed words other others
    → job ≡ other
proposed_job words job other settings others x y =
    let same : x.asked ≡ y.asked = some_inj (sym x.is ∙ y.is) in
    one_proposed job other (sym x.job_is ∙ (ap (λ (w : JobWords). w.job) same ∙ y.job_is))

pub proposed_fronts : (words : List (String Global)) (job : ProposedJob) (settings others : Settings)
    → AsksFront words settings → AsksProposed words job others → ⊥
proposed_fronts words job settings others front proposed =
    let same : front.asked ≡ proposed.asked = some_inj (sym front.is ∙ proposed.is) in
    none_fronted job (sym front.job ∙ (ap (λ (w : JobWords). w.job) same ∙ proposed.job_is))
