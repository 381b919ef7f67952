-- The verdict on the documents of answers: the checker's definitions meet those of the solver here,
-- and nowhere else.
use Rattle.std.specs.Prelude.{ℕ, ◌≡◌, Bool, List, [], Ok, Err}
use Rattle.packing_terms.specs.Packing.{PlainInstance}
use Rattle.packing_terms.specs.Limits.{IsInstance}
use Rattle.packing_terms.specs.Tokens.{PlainToken}
use Rattle.text_terms.specs.declared.claim.SolvingJob.{SolvingJob}
use Rattle.text_terms.specs.declared.claim.Claim.{Claim}
use Rattle.verdict_terms.specs.Documents.{Refusal, document_verdict, reduced_verdict}
use Rattle.verdict_terms.specs.Form.{IsDocument, IsReducedDocument}
use Rattle.answer_terms.specs.Answers.{answer_text}
use Rattle.answer_terms.specs.Answers.Answer.{Undecided, Claimed}
use Rattle.answer_terms.specs.declared.job.ReducedJob.{ReducedJob}
use Rattle.answer_terms.specs.declared.job.ReducedJob.TheVariants.{Fit as ReducesFit}
use Rattle.answer_terms.specs.Reduced.{reduced_solved, reduced_text, solving_job}
use Rattle.answer_terms.specs.Solved.{solved}
use Rattle.answer_terms.specs.Shown.{Shows}
use Rattle.answer_terms.specs.Explained.{explained_text}
use Rattle.verdict_terms.specs.Steps.{PlainStep}
use Rattle.verdict_terms.specs.Explaining.{Explains}
use Rattle.verdict_terms.specs.declared.kind.DocumentKind.TheVariants.{Explained, Reduced as ReducedKind}
use Rattle.verdict_terms.specs.Kinds.{document_kind}
use Rattle.verdict_terms.specs.ExplainedDocuments.{explained_verdict}
use Rattle.text_terms.specs.Claims.{job_of}
use Rattle.text_terms.specs.declared.claim.SolvingJob.TheVariants.{Fit}

-- the text is a document of the claim, and the instance in it is this one
pub record IsDocumentAbout (instance : PlainInstance) (text : List ℕ) (claim : Claim) : Type 0 where
  pub document : IsDocument text claim
  pub about : document.instance ≡ instance

-- no matter who found the numbers and the tokens, the text is a document of the claim about the instance
abbrev pub ShownClaimsHaveDocuments : Type 0
ShownClaimsHaveDocuments = (instance : PlainInstance) (claim : Claim) (numbers : List ℕ) (tokens : List PlainToken)
    → IsInstance instance
    → Shows instance claim numbers tokens
    → IsDocumentAbout instance (answer_text instance (Claimed claim numbers tokens)) claim

-- the text is verified with the claim, which is one of the job and about the instance
pub record IsVerifiedFor (job : SolvingJob) (instance : PlainInstance) (text : List ℕ) (claim : Claim) : Type 0 where
  pub of_job : job_of claim ≡ job
  pub is : IsDocumentAbout instance text claim
  pub verified : document_verdict text ≡ Ok claim

-- the document that answers a job with a claim is verified with it, and about the asked instance
abbrev pub OwnDocumentsAreVerified : Type 0
OwnDocumentsAreVerified = (job : SolvingJob) (budget : ℕ) (scales : Bool) (instance : PlainInstance) (claim : Claim)
    (numbers : List ℕ) (tokens : List PlainToken)
    → IsInstance instance → solved job budget scales instance ≡ Claimed claim numbers tokens
    → IsVerifiedFor job instance (answer_text instance (Claimed claim numbers tokens)) claim

-- `fit` alone is answered by undecided
abbrev pub OnlyFitIsUndecided : Type 0
OnlyFitIsUndecided = (job : SolvingJob) (budget : ℕ) (scales : Bool) (instance : PlainInstance)
    → solved job budget scales instance ≡ Undecided → job ≡ Fit

-- the document that says undecided is verified with no claim
abbrev pub UndecidedIsRefused : Type 0
UndecidedIsRefused = (instance : PlainInstance) (claim : Claim) → IsInstance instance
    → ¬ (document_verdict (answer_text instance Undecided) ≡ Ok claim)

-- the text is a reduced document of the claim, also by its first line, verified with the claim, which
-- is one of the job, and the instance in it is this one
pub record IsReducedFor (job : ReducedJob) (instance : PlainInstance) (text : List ℕ) (claim : Claim) : Type 0 where
  pub of_job : job_of claim ≡ solving_job job
  pub document : IsReducedDocument text claim
  pub about : document.instance ≡ instance
  pub kind : document_kind text ≡ ReducedKind
  pub verified : reduced_verdict text ≡ Ok claim

-- the document with which something is claimed from the symmetry facts on is verified with it, and
-- about the asked instance
abbrev pub OwnReducedDocumentsAreVerified : Type 0
OwnReducedDocumentsAreVerified =
    (job : ReducedJob) (budget : ℕ) (scales : Bool) (instance : PlainInstance) (claim : Claim) (numbers : List ℕ)
    (tokens : List PlainToken)
    → IsInstance instance → reduced_solved job budget scales instance ≡ Claimed claim numbers tokens
    → IsReducedFor job instance (reduced_text instance (Claimed claim numbers tokens)) claim

-- of these jobs `fit` alone is answered by undecided
abbrev pub OnlyReducedFitIsUndecided : Type 0
OnlyReducedFitIsUndecided = (job : ReducedJob) (budget : ℕ) (scales : Bool) (instance : PlainInstance)
    → reduced_solved job budget scales instance ≡ Undecided → job ≡ ReducesFit

-- the text is a reduced document by its first line, and refused as one
pub record IsReducedRefused (text : List ℕ) : Type 0 where
  pub kind : document_kind text ≡ ReducedKind
  pub refusal : Refusal
  pub refused : reduced_verdict text ≡ Err refusal

-- so is the document that says undecided
abbrev pub ReducedUndecidedIsRefused : Type 0
ReducedUndecidedIsRefused = (instance : PlainInstance) → IsInstance instance
    → IsReducedRefused (reduced_text instance Undecided)

-- the text is an explained document by its first line, verified, and about this instance
pub record IsExplainedFor (instance : PlainInstance) (text : List ℕ) : Type 0 where
  pub kind : document_kind text ≡ Explained
  pub verified : explained_verdict text ≡ Ok instance

-- so is the document that explains a refutation of the instance step by step
abbrev pub OwnExplanationsAreVerified : Type 0
OwnExplanationsAreVerified = (instance : PlainInstance) (steps : List PlainStep) → IsInstance instance
    → Explains instance [] steps
    → IsExplainedFor instance (explained_text instance steps)
