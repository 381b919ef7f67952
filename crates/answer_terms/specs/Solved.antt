-- The answer of each solving job for an instance, from the outcome of its tree under the budget, or
-- from the run of its levels. The number of workers has no part.
use Rattle.std.specs.Prelude.{ℕ, suc, Bool, true, false, List, [], ◌∷◌, Option, Some, None}
use Rattle.packing_terms.specs.Packing.{PlainInstance}
use Rattle.packing_terms.specs.Tokens.PlainToken.{TooLarge}
use Rattle.tree_terms.specs.Trees.{PlainOutcome, Decided, Past, Yes, No, outcome, under_budget}
use Rattle.tree_terms.specs.ClassTree.{class_tree, first_too_large_box, first_too_wide}
use Rattle.tree_terms.specs.Levels.{PlainReached, height_run, bin_run, value_run}
use Rattle.text_terms.specs.declared.claim.SolvingJob.{SolvingJob}
use Rattle.text_terms.specs.declared.claim.Claim.{Claim}
use Rattle.text_terms.specs.declared.claim.SolvingJob.TheVariants.{Fit, Strip, Bins, Knapsack}
use Rattle.text_terms.specs.declared.claim.Claim.TheVariants.{Fitting, NotFitting, LeastHeight, HeightBetween}
use Rattle.text_terms.specs.declared.claim.Claim.TheVariants.{NoHeight, LeastBins, BinsBetween, NoBins}
use Rattle.text_terms.specs.declared.claim.Claim.TheVariants.{GreatestValue, ValueBetween}
use Rattle.answer_terms.specs.Answers.{Answer, status_of, answer_text}
use Rattle.answer_terms.specs.Answers.Answer.{Undecided, Claimed}

-- by the outcome of the class tree
abbrev pub fit_answer : PlainOutcome → Answer
fit_answer (Decided (Yes numbers count)) = Claimed Fitting numbers []
fit_answer (Decided (No tokens count)) = Claimed NotFitting [] tokens
fit_answer Past = Undecided

-- there is no least number: the box exceeds the container in the dimension
abbrev pub none_answer : Claim → ℕ × ℕ → Answer
none_answer claim p = Claimed claim [] (TooLarge (suc p.0) (suc p.1) ∷ [])

-- the two levels of a run: the claim of the placed one where no decision was spent, else that of
-- both
abbrev pub reached_claim : Bool → Claim → Claim → Claim
reached_claim true whole between = between
reached_claim false whole between = whole

abbrev pub reached_answer : PlainReached → Claim → Claim → Answer
reached_answer r whole between = Claimed (reached_claim r.spent whole between) r.numbers r.tokens

-- by the first box that is too wide, and the run of heights
abbrev pub strip_answer : Option (ℕ × ℕ) → PlainReached → Answer
strip_answer (Some p) r = none_answer NoHeight p
strip_answer None r = reached_answer r (LeastHeight r.placed) (HeightBetween r.refuted r.placed)

-- by the first box that is too large, and the run of numbers of bins
abbrev pub bins_answer : Option (ℕ × ℕ) → PlainReached → Answer
bins_answer (Some p) r = none_answer NoBins p
bins_answer None r = reached_answer r (LeastBins r.placed) (BinsBetween r.refuted r.placed)

-- by the run of values
abbrev pub knapsack_answer : PlainReached → Answer
knapsack_answer r = reached_answer r (GreatestValue r.placed) (ValueBetween r.placed r.refuted)

-- the answer of a job under a budget, with or without scales
unfoldable pub solved : SolvingJob → ℕ → Bool → PlainInstance → Answer
solved Fit budget scales instance = fit_answer (under_budget budget (outcome (class_tree instance [] scales)))
solved Strip budget scales instance = strip_answer (first_too_wide instance) (height_run instance budget scales)
solved Bins budget scales instance = bins_answer (first_too_large_box instance) (bin_run instance budget scales)
solved Knapsack budget scales instance = knapsack_answer (value_run instance budget scales)

-- a status and the bytes of a document
pub record JobAnswer : Type 0 where
  pub status : ℕ
  pub text : List ℕ

abbrev pub answer_of : SolvingJob → ℕ → Bool → PlainInstance → JobAnswer
answer_of job budget scales instance =
    let answer = solved job budget scales instance in
    record { status = status_of answer; text = answer_text instance answer }
