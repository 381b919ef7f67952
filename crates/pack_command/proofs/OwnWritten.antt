-- The documents that are written are verified, and about the instance that was asked.
use Rattle.std.proofs.Common.{ℕ, ◌≡◌, ◌⊎◌, inl, inr, refl, sym, ap, subst, ◌∙◌, List, Option, Result, Ok, Err, Some}
use Rattle.std.proofs.Common.{String, Global}
use Rattle.packing_terms.specs.Packing.{PlainInstance}
use Rattle.packing_terms.specs.Limits.{IsInstance}
use Rattle.text_terms.specs.Texts.{text_instance}
use Rattle.text_terms.specs.declared.claim.SolvingJob.{SolvingJob}
use Rattle.text_terms.specs.declared.claim.Claim.{Claim}
use Rattle.verdict_terms.specs.Documents.{Refusal, reduced_verdict}
use Rattle.verdict_terms.specs.declared.kind.DocumentKind.TheVariants.{Reduced as ReducedKind}
use Rattle.verdict_terms.specs.Kinds.{document_kind}
use Rattle.answer_streams.specs.Audited.{ReducedVerdictOf, verdict_of_kind, audit_verdict}
use Rattle.answer_terms.specs.declared.job.DocumentJob.{DocumentJob}
use Rattle.answer_terms.specs.declared.job.DocumentJob.TheVariants.{Solving as Solves, Reduced as Reduces}
use Rattle.answer_terms.specs.declared.job.ReducedJob.{ReducedJob}
use Rattle.answer_terms.specs.Answers.{Answer, answer_text, status_of}
use Rattle.answer_terms.specs.Answers.Answer.{Undecided, Claimed}
use Rattle.answer_terms.specs.Solved.{solved}
use Rattle.answer_terms.proofs.OwnAccepted.{own_verified}
use Rattle.answer_terms.proofs.Undecided.{only_fit, undecided_refused, only_reduced_fit, reduced_undecided_refused}
use Rattle.answer_terms.proofs.OwnReduced.{own_reduced}
use Rattle.answer_terms.specs.Reduced.{reduced_solved, reduced_text}
use Rattle.pack_command.specs.Decides.{AsksWhetherFits}
use Rattle.text_terms.specs.declared.settings.Settings.{Settings}
use Rattle.pack_streams.specs.Moves.{Appended}
use Rattle.pack_command.specs.Answered.{answer_for}
use Rattle.pack_command.specs.Asked.{AsksToSolve}
use Rattle.pack_command.specs.Run.{IsWritten}
use Rattle.pack_command.specs.Own.{IsVerified, IsUndecidedOutput, IsOutputVerified}
use Rattle.pack_command.proofs.Written.{written_answers, written_limits}

own_answer : (job : SolvingJob) (settings : Settings) (instance : PlainInstance) → IsInstance instance → (a : Answer)
    → solved job settings.budget settings.scales instance ≡ a
    → IsVerified (Solves job) instance (answer_text instance a) (status_of a)
    ⊎ IsUndecidedOutput (Solves job) (answer_text instance a) (status_of a)
own_answer job settings instance limits Undecided e =
    let fit = only_fit job settings.budget settings.scales instance e in
    inr (record {
      asked = subst (λ j. AsksWhetherFits (Solves j)) (sym fit) tt;
      undecided = refl;
      refused = (λ claim v. undecided_refused instance claim limits v);
    })
own_answer job settings instance limits (Claimed claim numbers tokens) e =
    inl (record {
      claim = claim;
      verified = own_verified job settings.budget settings.scales instance claim numbers tokens limits e;
      status_is = refl;
    })

-- an audit of a text of its kind gives the verdict on reduced documents
audited_reduced : (text : List ℕ) (verdict : Result Claim Refusal) → document_kind text ≡ ReducedKind
    → reduced_verdict text ≡ verdict → audit_verdict text ≡ ReducedVerdictOf verdict
audited_reduced text verdict kind is = ap (λ k. verdict_of_kind k text) kind ∙ ap ReducedVerdictOf is

reduced_answer : (job : ReducedJob) (settings : Settings) (instance : PlainInstance) → IsInstance instance
    → (a : Answer)
    → reduced_solved job settings.budget settings.scales instance ≡ a
    → IsVerified (Reduces job) instance (reduced_text instance a) (status_of a)
    ⊎ IsUndecidedOutput (Reduces job) (reduced_text instance a) (status_of a)
reduced_answer job settings instance limits Undecided e =
    let fit = only_reduced_fit job settings.budget settings.scales instance e in
    inr (record {
      asked = subst (λ j. AsksWhetherFits (Reduces j)) (sym fit) tt;
      undecided = refl;
      refused = let r = reduced_undecided_refused instance limits in
          (r.refusal, audited_reduced (reduced_text instance Undecided) (Err r.refusal) r.kind r.refused);
    })
reduced_answer job settings instance limits (Claimed claim numbers tokens) e =
    inl (record {
      claim = claim;
      verified = let is = own_reduced job settings.budget settings.scales instance claim numbers tokens limits e in
          record {
            is = is;
            audited = audited_reduced (reduced_text instance (Claimed claim numbers tokens)) (Ok claim) is.kind
                is.verified;
          };
      status_is = refl;
    })

-- the document of the definition
pub own_text : (job : DocumentJob) (settings : Settings) (instance : PlainInstance) → IsInstance instance
    → (sunk_old sunk_new : Option (List ℕ))
    → Appended sunk_old sunk_new (answer_for job settings instance).text
    → IsOutputVerified job instance sunk_old sunk_new (answer_for job settings instance).status
own_text (Solves job) settings instance limits sunk_old sunk_new gains = record {
  document = (answer_for (Solves job) settings instance).text;
  written = gains;
  own = own_answer job settings instance limits (solved job settings.budget settings.scales instance) refl;
}
own_text (Reduces job) settings instance limits sunk_old sunk_new gains = record {
  document = (answer_for (Reduces job) settings instance).text;
  written = gains;
  own = reduced_answer job settings instance limits (reduced_solved job settings.budget settings.scales instance) refl;
}

pub own_written : (words : List (String Global)) (old new sunk_old sunk_new : Option (List ℕ)) (status : ℕ)
    (settings : Settings) (stated : List ℕ) (instance : PlainInstance)
    → IsWritten words old new sunk_old sunk_new status → old ≡ Some stated → text_instance stated ≡ Ok instance
    → (job : DocumentJob) → AsksToSolve words job settings
    → IsOutputVerified job instance sunk_old sunk_new status
own_written words old new sunk_old sunk_new status settings stated instance w is read job asks =
    let a = written_answers words old new sunk_old sunk_new status settings stated instance w is read job asks in
    let limits = written_limits words old new sunk_old sunk_new status settings stated instance w is read in
    let own = own_text job settings instance limits sunk_old sunk_new a.1 in
    rw a.0 own
