-- The answers of the jobs that are decided from the symmetry facts on: of `fit`, whose class tree
-- begins with them, and of `strip`, where those of all heights do. Their documents begin with
-- `reduced`.
use Rattle.std.specs.Prelude.{ℕ, ◌<◌, ◌≡◌, ◌↔◌, Bool, List, codes}
use Rattle.packing_terms.specs.Packing.{PlainInstance}
use Rattle.packing_terms.specs.Limits.{IsInstance}
use Rattle.packing_terms.specs.Tokens.{PlainToken}
use Rattle.packing_terms.specs.Facts.{symmetry_facts}
use Rattle.text_terms.specs.Spelling.{lines_text}
use Rattle.tree_terms.specs.Trees.{PlainOutcome, outcome, under_budget, count_of}
use Rattle.tree_terms.specs.ClassTree.{class_tree, first_too_wide}
use Rattle.tree_terms.specs.Heights.{reduced_height_run}
use Rattle.text_terms.specs.declared.claim.SolvingJob.{SolvingJob}
use Rattle.text_terms.specs.declared.claim.SolvingJob.TheVariants.{Fit as SolvesFit, Strip as SolvesStrip}
use Rattle.text_terms.specs.declared.claim.Claim.{Claim}
use Rattle.text_terms.specs.Claims.{IsTrueOf}
use Rattle.answer_terms.specs.Answers.{Answer, Lines, headed_lines, status_of}
use Rattle.answer_terms.specs.Answers.Answer.{Undecided, Claimed}
use Rattle.answer_terms.specs.Shown.{IsShownFrom}
use Rattle.answer_terms.specs.Solved.{fit_answer, strip_answer, JobAnswer, answer_of}
use Rattle.answer_terms.specs.declared.job.DocumentJob.{DocumentJob}
use Rattle.answer_terms.specs.declared.job.DocumentJob.TheVariants.{Solving, Reduced}
use Rattle.answer_terms.specs.declared.job.ReducedJob.{ReducedJob}
use Rattle.answer_terms.specs.declared.job.ReducedJob.TheVariants.{Fit, Strip}

-- the outcome under the budget of the class tree that begins with the symmetry facts
abbrev pub reduced_outcome : ℕ → Bool → PlainInstance → PlainOutcome
reduced_outcome budget scales instance = under_budget budget (outcome (class_tree instance (symmetry_facts instance) scales))

unfoldable pub reduced_solved : ReducedJob → ℕ → Bool → PlainInstance → Answer
reduced_solved Fit budget scales instance = fit_answer (reduced_outcome budget scales instance)
reduced_solved Strip budget scales instance =
    strip_answer (first_too_wide instance) (reduced_height_run instance budget scales)

-- the lines of the document: those of the answer, behind `reduced`
abbrev pub reduced_answer_lines : PlainInstance → Answer → Lines
reduced_answer_lines instance answer = headed_lines (codes "reduced") instance answer

-- the document, a line feed after each line
unfoldable pub reduced_text : PlainInstance → Answer → List ℕ
reduced_text instance answer = lines_text (reduced_answer_lines instance answer)

-- the status and the bytes
abbrev pub reduced_answer_of : ReducedJob → ℕ → Bool → PlainInstance → JobAnswer
reduced_answer_of job budget scales instance =
    let answer = reduced_solved job budget scales instance in
    record { status = status_of answer; text = reduced_text instance answer }

-- the answer of a job that answers an instance with a document
abbrev pub document_answer : DocumentJob → ℕ → Bool → PlainInstance → JobAnswer
document_answer (Solving job) budget scales instance = answer_of job budget scales instance
document_answer (Reduced job) budget scales instance = reduced_answer_of job budget scales instance

-- the solving job that asks the same
abbrev pub solving_job : ReducedJob → SolvingJob
solving_job Fit = SolvesFit
solving_job Strip = SolvesStrip

-- ---- the laws

-- what is claimed is of the job, and shown from the facts of the instance on
abbrev pub IsShownReduced : ReducedJob → PlainInstance → Claim → List ℕ → List PlainToken → Type 0
IsShownReduced job instance claim numbers tokens =
    IsShownFrom (symmetry_facts instance) (solving_job job) instance claim numbers tokens

abbrev pub ReducedAnswersAreShown : Type 0
ReducedAnswersAreShown = (job : ReducedJob) (budget : ℕ) (scales : Bool) (instance : PlainInstance) (claim : Claim)
    (numbers : List ℕ) (tokens : List PlainToken)
    → IsInstance instance → reduced_solved job budget scales instance ≡ Claimed claim numbers tokens
    → IsShownReduced job instance claim numbers tokens

-- what such a job claims is true
abbrev pub ReducedAnswersAreTrue : Type 0
ReducedAnswersAreTrue = (job : ReducedJob) (budget : ℕ) (scales : Bool) (instance : PlainInstance) (claim : Claim)
    (numbers : List ℕ) (tokens : List PlainToken)
    → IsInstance instance → reduced_solved job budget scales instance ≡ Claimed claim numbers tokens
    → IsTrueOf instance claim

-- `fit` is undecided from the facts on exactly where the class tree that begins with them has more
-- branchings than the budget
abbrev pub ReducedUndecidedExactlyPast : Type 0
ReducedUndecidedExactlyPast = (budget : ℕ) (scales : Bool) (instance : PlainInstance)
    → (reduced_solved Fit budget scales instance ≡ Undecided) ↔
    (budget < count_of (outcome (class_tree instance (symmetry_facts instance) scales)))
