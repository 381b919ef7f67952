-- A claim that is answered from the symmetry facts on has a document.
use Rattle.std.proofs.Common.{sym, subst}
use Rattle.text_terms.specs.declared.claim.SolvingJob.{SolvingJob}
use Rattle.verdict_terms.specs.declared.heading.Heading.TheVariants.{Reduced}
use Rattle.verdict_terms.specs.Form.{MayName}
use Rattle.verdict_terms.proofs.FormGiven.{documents_have_form}
use Rattle.answer_terms.specs.declared.job.ReducedJob.{ReducedJob}
use Rattle.answer_terms.specs.declared.job.ReducedJob.TheVariants.{Fit, Strip}
use Rattle.answer_terms.specs.Answers.Answer.{Claimed}
use Rattle.answer_terms.specs.Reduced.{reduced_text, solving_job}
use Rattle.answer_terms.proofs.Reduced.{reduced_shown}
use Rattle.verdict_terms.proofs.KindOf.{reduced_documents}
use Rattle.answer_terms.specs.Own.{OwnReducedDocumentsAreVerified}
use Rattle.answer_terms.proofs.OwnAccepted.{shown_headed}

may_name : (job : ReducedJob) → MayName Reduced (solving_job job)
may_name Fit = tt
may_name Strip = tt

pub own_reduced : OwnReducedDocumentsAreVerified
unfolding reduced_text
own_reduced job budget scales instance claim numbers tokens limits e =
    let shown = reduced_shown job budget scales instance claim numbers tokens limits e in
    let is = shown_headed Reduced instance claim numbers tokens limits tt
    (subst (λ (j : SolvingJob). MayName Reduced j) (sym shown.of_job) (may_name job)) shown.shown in
    let verified = (documents_have_form Reduced (reduced_text instance (Claimed claim numbers tokens)) claim).1
    is.document in
    record {
      of_job = shown.of_job;
      document = is.document;
      about = is.about;
      kind = reduced_documents (reduced_text instance (Claimed claim numbers tokens)) claim verified;
      verified = verified;
    }
