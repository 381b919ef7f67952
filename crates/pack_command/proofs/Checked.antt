-- What a check that ended in a verdict says of all bytes, and of the instance in them.
use Rattle.std.proofs.Common.{◌≡◌, ℕ, ◌<◌, ◌≤◌, ◌+◌, ◌-◌, inl, inr, sym, ap, subst, ◌∙◌, List, ◌++◌, length, take}
use Rattle.std.proofs.Common.{arith, Option, Some, None, Result, Ok, Err, String, Global}
use Rattle.std.proofs.Math.Seq.{take-append-add}
use Rattle.text_terms.specs.declared.claim.Claim.{Claim}
use Rattle.pack_streams.specs.Moves.{Consumed, Appended}
use Rattle.answer_terms.specs.declared.job.DocumentJob.{DocumentJob}
use Rattle.pack_words.specs.declared.job.JobWords.{JobWords}
use Rattle.pack_words.proofs.Walking.{some_inj}
use Rattle.text_terms.specs.declared.settings.Settings.{Settings}
use Rattle.verdict_terms.specs.declared.heading.Heading.TheVariants.{Answer}
use Rattle.verdict_terms.specs.declared.heading.Heading.{Heading}
use Rattle.verdict_terms.specs.Documents.{Refusal, headed_verdict, document_verdict, verdict_line}
use Rattle.verdict_terms.specs.Form.{IsDocument}
use Rattle.verdict_terms.proofs.Stays.{refusals_stay}
use Rattle.verdict_terms.proofs.FormGiven.{documents_have_form}
use Rattle.verdict_terms.proofs.True.{documents_are_true}
use Rattle.verdict_terms.specs.Fed.{NoneRefused, NoneRefusedUnder}
use Rattle.document_lines.specs.Reading.{AreEnoughUnder}
use Rattle.document_check.specs.Checked.{max_check_bytes}
use Rattle.pack_command.specs.declared.stop.Stop.{Stop}
use Rattle.pack_command.specs.Asked.{document_job, AsksToSolve, AsksCheck}
use Rattle.answer_streams.specs.Verdicts.{verdict_status}
use Rattle.pack_command.specs.Checks.{HasVerdictUnder, IsVerdictFound, IsVerdictWritten, IsVerdictOutput, IsVerifiedClaim}
use Rattle.pack_command.specs.Ends.{IsJobCompleted, IsJobAborted}
use Rattle.pack_command.specs.Run.{IsWritten, IsStopped}
use Rattle.pack_command.proofs.Written.{taken_all}
use Rattle.pack_command.proofs.Generating.{no_solve, no_check, task_solves, task_checks}
use Rattle.pack_command.proofs.OneJob.{front_solves, front_checks, proposed_solves, proposed_checks}

-- no words ask for a solving job and for a check
pub one_job : (words : List (String Global)) (job : DocumentJob) (settings : Settings) → AsksToSolve words job settings
    → AsksCheck words → ⊥
one_job words job settings solve check =
    let same : solve.asked ≡ check.asked = some_inj (sym solve.is ∙ check.is) in
    let none : None ≡ Some job = sym (ap (λ (w : JobWords). document_job w.job) same ∙ ap document_job check.job)
    ∙ solve.job_is in
    absurd (cc (none))

-- what was done for a solving job is a written answer, and for a check a written verdict
pub solved_done : (words : List (String Global)) (old new sunk_old sunk_new : Option (List ℕ)) (status : ℕ)
    (job : DocumentJob) (settings : Settings)
    → AsksToSolve words job settings → IsJobCompleted words old new sunk_old sunk_new status
    → IsWritten words old new sunk_old sunk_new status
solved_done words old new sunk_old sunk_new status job settings asks (inl w) = w
solved_done words old new sunk_old sunk_new status job settings asks (inr (inl c)) =
    absurd (one_job words job settings asks c.0)
solved_done words old new sunk_old sunk_new status job settings asks (inr (inr (inl m))) =
    absurd (no_solve words m.number m.settings job settings m.asked asks)
solved_done words old new sunk_old sunk_new status job settings asks (inr (inr (inr (inl a)))) =
    absurd (task_solves words job settings a.0 asks a.1)
solved_done words old new sunk_old sunk_new status job settings asks (inr (inr (inr (inr (inl f))))) =
    absurd (front_solves words job settings f.settings asks f.answered.asked)
solved_done words old new sunk_old sunk_new status job settings asks (inr (inr (inr (inr (inr p))))) =
    absurd (proposed_solves words job p.job settings p.settings asks p.answered.asked)

pub solved_undone : (words : List (String Global)) (old new sunk_old sunk_new : Option (List ℕ)) (stop : Stop)
    (job : DocumentJob) (settings : Settings)
    → AsksToSolve words job settings → IsJobAborted words old new sunk_old sunk_new stop
    → IsStopped words old new sunk_old sunk_new stop
solved_undone words old new sunk_old sunk_new stop job settings asks (inl s) = s
solved_undone words old new sunk_old sunk_new stop job settings asks (inr (inl c)) =
    absurd (one_job words job settings asks c.0)
solved_undone words old new sunk_old sunk_new stop job settings asks (inr (inr (inl u))) =
    absurd (no_solve words u.number u.settings job settings u.asked asks)
solved_undone words old new sunk_old sunk_new stop job settings asks (inr (inr (inr (inl a)))) =
    absurd (task_solves words job settings a.0 asks a.1)
solved_undone words old new sunk_old sunk_new stop job settings asks (inr (inr (inr (inr (inl f))))) =
    absurd (front_solves words job settings f.0.0 asks f.0.1)
solved_undone words old new sunk_old sunk_new stop job settings asks (inr (inr (inr (inr (inr p))))) =
    absurd (proposed_solves words job p.0.0 settings p.0.1 asks p.0.2)

pub judged_done : (words : List (String Global)) (old new sunk_old sunk_new : Option (List ℕ)) (status : ℕ)
    → AsksCheck words
    → IsJobCompleted words old new sunk_old sunk_new status → IsVerdictWritten old new sunk_old sunk_new status
judged_done words old new sunk_old sunk_new status asks (inl w) =
    absurd (one_job words w.answered.job w.answered.settings w.answered.asked asks)
judged_done words old new sunk_old sunk_new status asks (inr (inl c)) = c.1
judged_done words old new sunk_old sunk_new status asks (inr (inr (inl m))) =
    absurd (no_check words m.number m.settings m.asked asks)
judged_done words old new sunk_old sunk_new status asks (inr (inr (inr (inl a)))) =
    absurd (task_checks words a.0 asks a.1)
judged_done words old new sunk_old sunk_new status asks (inr (inr (inr (inr (inl f))))) =
    absurd (front_checks words f.settings f.answered.asked asks)
judged_done words old new sunk_old sunk_new status asks (inr (inr (inr (inr (inr p))))) =
    absurd (proposed_checks words p.job p.settings p.answered.asked asks)

-- what was taken, and the rest of the bytes
pub told_rest : (old left : Option (List ℕ)) (taken bytes : List ℕ) → old ≡ Some bytes → Consumed old left taken
    → (rest : List ℕ) × (bytes ≡ taken ++ rest)
told_rest old None taken bytes is gives = absurd (cc (is, gives))
told_rest old (Some rest) taken bytes is gives = (rest, some_inj (sym is ∙ gives))

-- the verdict that was reached is that of all bytes
pub reached_under : (heading : Heading) (old left : Option (List ℕ)) (taken bytes : List ℕ)
    (verdict : Result Claim Refusal) → old ≡ Some bytes → Consumed old left taken
    → HasVerdictUnder heading left taken verdict → headed_verdict heading bytes ≡ verdict
reached_under heading old left taken bytes (Ok claim) is gives reached =
    ap (headed_verdict heading) (sym (taken_all old left taken bytes is gives reached.2)) ∙ reached.0
reached_under heading old left taken bytes (Err refusal) is gives reached = by_enough reached.2
  where
    by_enough : AreEnoughUnder heading left taken refusal → headed_verdict heading bytes ≡ Err refusal
    by_enough (inl ends) =
        let rest = told_rest old left taken bytes is gives in
        ap (headed_verdict heading) rest.1 ∙ refusals_stay heading taken rest.0 refusal reached.0 ends
    by_enough (inr whole) =
        ap (headed_verdict heading) (sym (taken_all old left taken bytes is gives whole.0)) ∙ reached.0

pub judged_exactly : (old new sunk_old sunk_new : Option (List ℕ)) (status : ℕ) (bytes : List ℕ) → old ≡ Some bytes
    → IsVerdictWritten old new sunk_old sunk_new status → IsVerdictOutput bytes sunk_old sunk_new status
judged_exactly old new sunk_old sunk_new status bytes is judged =
    let found = judged.found in
    let same : document_verdict bytes ≡ judged.verdict =
    reached_under Answer old new found.taken bytes judged.verdict is found.gives found.reached in
    record {
      status_is = judged.status_is ∙ ap verdict_status (sym same);
      line = subst (λ v. Appended sunk_old sunk_new (verdict_line v)) (sym same) judged.line;
    }

-- no verdict is reached on more bytes than are read, where no whole line within these is refused
pub found_under : (heading : Heading) (old new : Option (List ℕ)) (bytes : List ℕ) → old ≡ Some bytes
    → max_check_bytes < length bytes → NoneRefusedUnder heading (take max_check_bytes bytes)
    → (taken : List ℕ) → Consumed old new taken
    → (verdict : Result Claim Refusal) → HasVerdictUnder heading new taken verdict → ⊥
found_under heading old new bytes is past none taken gives = go
  where
    whole : length taken ≤ max_check_bytes → taken ≡ bytes → ⊥
    whole few same = omega (arith, few, past, ap length same)

    go : (verdict : Result Claim Refusal) → HasVerdictUnder heading new taken verdict → ⊥
    go (Ok claim) reached = whole reached.1 (taken_all old new taken bytes is gives reached.2)
    go (Err refusal) reached = by_enough reached.2
      where
        by_enough : AreEnoughUnder heading new taken refusal → ⊥
        by_enough (inr all) = whole reached.1 (taken_all old new taken bytes is gives all.0)
        by_enough (inl ends) =
            let rest = told_rest old new taken bytes is gives in
            let few : length taken ≤ max_check_bytes = reached.1 in
            let more : ℕ = max_check_bytes - length taken in
            let split : max_check_bytes ≡ length taken + more = omega (arith, few) in
            none taken (take more rest.0) refusal
            (ap (take max_check_bytes) rest.1 ∙ ap (λ n. take n (taken ++ rest.0)) split
            ∙ take-append-add taken rest.0 more) ends reached.0

pub found_within : (old new : Option (List ℕ)) (bytes : List ℕ) → old ≡ Some bytes → max_check_bytes < length bytes
    → NoneRefused (take max_check_bytes bytes) → (verdict : Result Claim Refusal)
    → IsVerdictFound old new verdict → ⊥
found_within old new bytes is past none verdict found =
    found_under Answer old new bytes is past none found.taken found.gives verdict found.reached

-- a verified document shows its claim, and that is true
pub judged_claimed : (old new sunk_old sunk_new : Option (List ℕ)) (status : ℕ) → status ≡ 0
    → IsVerdictWritten old new sunk_old sunk_new status → IsVerifiedClaim old new sunk_old sunk_new
judged_claimed old new sunk_old sunk_new status zero judged =
    go judged.verdict judged.found (sym judged.status_is ∙ zero) judged.line
  where
    go : (verdict : Result Claim Refusal) → IsVerdictFound old new verdict → verdict_status verdict ≡ 0
        → Appended sunk_old sunk_new (verdict_line verdict)
        → IsVerifiedClaim old new sunk_old sunk_new
    go (Ok claim) found ok line =
        let document : IsDocument found.taken claim =
        (documents_have_form Answer found.taken claim).0 found.reached.0 in
        record {
          bytes = found.taken;
          taken = found.gives;
          ended = found.reached.2;
          claim = claim;
          document = document;
          holds = documents_are_true Answer found.taken claim document;
          line = line;
        }
    go (Err refusal) found bad line = absurd (cc (bad))
