-- The documents of jobs with proposals are verified.
use Rattle.std.proofs.Common.{ℕ, ◌≡◌, ◌⊎◌, inl, inr, refl, List}
use Rattle.std.specs.declared.option.Option.{Option}
use Rattle.packing_terms.specs.Packing.{PlainInstance}
use Rattle.packing_terms.specs.Limits.{IsInstance}
use Rattle.text_terms.specs.Claims.{job_of}
use Rattle.text_terms.specs.declared.claim.SolvingJob.{SolvingJob}
use Rattle.answer_terms.specs.declared.job.DocumentJob.TheVariants.{Solving as Solves}
use Rattle.answer_terms.specs.Answers.{Answer, answer_text, status_of}
use Rattle.answer_terms.specs.Answers.Answer.{Undecided, Claimed}
use Rattle.answer_terms.specs.Shown.{Shows}
use Rattle.answer_terms.proofs.OwnAccepted.{shown_documents}
use Rattle.answer_terms.proofs.Undecided.{undecided_refused}
use Rattle.verdict_terms.specs.declared.heading.Heading.TheVariants.{Answer as AnswerHeading}
use Rattle.verdict_terms.proofs.FormGiven.{documents_have_form}
use Rattle.pack_streams.specs.Moves.{Appended}
use Rattle.pack_command.specs.Decides.{AsksWhetherFits}
use Rattle.pack_command.specs.Own.{IsVerified, IsUndecidedOutput, IsOutputVerified}

-- undecided, where the job asks whether the instance fits, or a claim of the job that is shown
abbrev pub IsOwnAnswer : SolvingJob → PlainInstance → Answer → Type 0
IsOwnAnswer job instance Undecided = AsksWhetherFits (Solves job)
IsOwnAnswer job instance (Claimed claim numbers tokens) = (job_of claim ≡ job) × Shows instance claim numbers tokens

own_by : (job : SolvingJob) (instance : PlainInstance) → IsInstance instance → (answer : Answer)
    → IsOwnAnswer job instance answer
    → IsVerified (Solves job) instance (answer_text instance answer) (status_of answer)
    ⊎ IsUndecidedOutput (Solves job) (answer_text instance answer) (status_of answer)
own_by job instance limits Undecided own =
    inr (record { asked = own; undecided = refl; refused = (λ claim v. undecided_refused instance claim limits v) })
own_by job instance limits (Claimed claim numbers tokens) own =
    let is = shown_documents instance claim numbers tokens limits own.1 in
    inl (record {
      claim = claim;
      verified = record {
        of_job = own.0;
        is = is;
        verified = (documents_have_form AnswerHeading (answer_text instance (Claimed claim numbers tokens)) claim).1
            is.document;
      };
      status_is = refl;
    })

-- the document is verified with the claim, or says undecided and is verified with none
pub own_proposed : (job : SolvingJob) (instance : PlainInstance) → IsInstance instance → (answer : Answer)
    → IsOwnAnswer job instance answer
    → (old new : Option (List ℕ)) → Appended old new (answer_text instance answer)
    → IsOutputVerified (Solves job) instance old new (status_of answer)
own_proposed job instance limits answer own old new written =
    record { document = answer_text instance answer; written = written; own = own_by job instance limits answer own }
