-- The verdict on the document that answers a job.
use Rattle.std.specs.Prelude.{ℕ, ◌≡◌, ◌⊎◌, List, Ok, Err}
use Rattle.std.specs.declared.option.Option.{Option}
use Rattle.packing_terms.specs.Packing.{PlainInstance}
use Rattle.text_terms.specs.declared.claim.Claim.{Claim}
use Rattle.answer_terms.specs.declared.job.DocumentJob.{DocumentJob}
use Rattle.answer_terms.specs.declared.job.DocumentJob.TheVariants.{Solving as Solves, Reduced as Reduces}
use Rattle.answer_terms.specs.declared.job.ReducedJob.{ReducedJob}
use Rattle.verdict_terms.specs.Documents.{Refusal, document_verdict}
use Rattle.answer_terms.specs.Own.{IsVerifiedFor, IsReducedFor}
use Rattle.answer_terms.specs.Answers.{claim_status}
use Rattle.pack_streams.specs.Moves.{Appended}
use Rattle.answer_streams.specs.Audited.{audit_verdict, ReducedVerdictOf}
use Rattle.pack_command.specs.Decides.{AsksWhetherFits}

-- an audit verifies the reduced document, with a claim of the job and about the instance
pub record IsReducedAudited (job : ReducedJob) (instance : PlainInstance) (document : List ℕ) (claim : Claim) :
    Type 0 where
  pub is : IsReducedFor job instance document claim
  pub audited : audit_verdict document ≡ ReducedVerdictOf (Ok claim)

-- the document is verified under the heading of the job, with a claim of the job and about the
-- instance: by `check` that of a solving job, by `audit` a reduced one
abbrev pub IsVerifiedBy : DocumentJob → PlainInstance → List ℕ → Claim → Type 0
IsVerifiedBy (Solves job) instance document claim = IsVerifiedFor job instance document claim
IsVerifiedBy (Reduces job) instance document claim = IsReducedAudited job instance document claim

-- under that heading it is verified with no claim: `check` refuses the one, `audit` the other
abbrev pub IsRefusedBy : DocumentJob → List ℕ → Type 0
IsRefusedBy (Solves job) document = (claim : Claim) → ¬ (document_verdict document ≡ Ok claim)
IsRefusedBy (Reduces job) document = (refusal : Refusal) × (audit_verdict document ≡ ReducedVerdictOf (Err refusal))

-- the document is verified with a claim of the job, of this status, and the instance in it is the
-- one that was asked
pub record IsVerified (job : DocumentJob) (instance : PlainInstance) (document : List ℕ) (status : ℕ) : Type 0 where
  pub claim : Claim
  pub verified : IsVerifiedBy job instance document claim
  pub status_is : status ≡ claim_status claim

-- `fit` or `reduced` was asked, the document says undecided, and it is verified with no claim
pub record IsUndecidedOutput (job : DocumentJob) (document : List ℕ) (status : ℕ) : Type 0 where
  pub asked : AsksWhetherFits job
  pub undecided : status ≡ 3
  pub refused : IsRefusedBy job document

-- a whole document was written, which is the one or the other
pub record IsOutputVerified (job : DocumentJob) (instance : PlainInstance) (sunk_old sunk_new : Option (List ℕ))
    (status : ℕ) : Type 0 where
  pub document : List ℕ
  pub written : Appended sunk_old sunk_new document
  pub own : IsVerified job instance document status ⊎ IsUndecidedOutput job document status
