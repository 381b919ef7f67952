-- The answer of `knapsack` by bounded refutations, its status, and its text: a document in the one spelling.
--
--     bounded knapsack          instance lines          result ..          take lines, proof, tokens          end
use Rattle.std.specs.Prelude.{ℕ, suc, ◌<◌, ◌≤◌, ◌==◌, cond, List, [], ◌∷◌, ◌++◌, map, codes}
use Rattle.packing_terms.specs.Packing.{PlainInstance}
use Rattle.text_terms.specs.Spelling.{lines_text}
use Rattle.text_terms.specs.declared.claim.SolvingJob.TheVariants.{Knapsack}
use Rattle.text_terms.specs.declared.claim.Claim.{Claim}
use Rattle.text_terms.specs.declared.claim.Claim.TheVariants.{GreatestValue, ValueBetween}
use Rattle.text_terms.specs.Claims.{result_words, max_worth}
use Rattle.text_terms.specs.TokenLines.{IsParameter}
use Rattle.tree_terms.specs.OuterSearch.{AreTakenNumbers}
use Rattle.verdict_terms.specs.BoundedRefutation.{BoundedToken, Plain, PricedOut, Exchange, IsBoundedRefutation}
use Rattle.verdict_terms.specs.BoundedLines.{bounded_token_words}
use Rattle.answer_terms.specs.Answers.{Lines, claim_status, document_lines, take_lines}

-- A placed value, with the numbers of a set of boxes that is worth it, and a refuted value, with the
-- tokens that refute it.
pub record BoundedAnswer : Type 0 where
  pub placed : ℕ
  pub numbers : List ℕ
  pub refuted : ℕ
  pub tokens : List BoundedToken

-- the weights of each priced leaf, and the numbers of each exchange, are at most 4,294,967,295
abbrev pub HaveParameters : List BoundedToken → Type 0
HaveParameters [] = Unit {0}
HaveParameters (Plain t ∷ ts) = HaveParameters ts
HaveParameters (PricedOut q p fs ∷ ts) = IsParameter q × IsParameter p × HaveParameters ts
HaveParameters (Exchange u v ∷ ts) = IsParameter u × IsParameter v × HaveParameters ts

-- The numbers reach the placed value, and the tokens refute the refuted value, which is the greater one.
pub record IsBoundedAnswer (instance : PlainInstance) (answer : BoundedAnswer) : Type 0 where
  pub rising : answer.placed < answer.refuted
  pub most : answer.refuted ≤ max_worth
  pub packing : AreTakenNumbers instance answer.placed answer.numbers
  pub refutation : IsBoundedRefutation instance answer.refuted answer.tokens
  pub parameters : HaveParameters answer.tokens

-- the claim: the placed value is the greatest if the refuted value is one more
unfoldable pub value_claim : ℕ → ℕ → Claim
value_claim placed refuted = cond (suc placed == refuted) (GreatestValue placed) (ValueBetween placed refuted)

abbrev pub bounded_claim : BoundedAnswer → Claim
bounded_claim answer = value_claim answer.placed answer.refuted

abbrev pub bounded_status : BoundedAnswer → ℕ
bounded_status answer = claim_status (bounded_claim answer)

-- a line for each token
abbrev pub bounded_token_lines : List BoundedToken → Lines
bounded_token_lines tokens = map bounded_token_words tokens

-- what stands between the result line and `end`: a line for each taken box, `proof`, a line for each token
abbrev pub bounded_backing : PlainInstance → List ℕ → List BoundedToken → Lines
bounded_backing instance numbers tokens =
    take_lines instance numbers ++ (codes "proof" ∷ []) ∷ bounded_token_lines tokens

abbrev pub bounded_lines : PlainInstance → BoundedAnswer → Lines
bounded_lines instance answer =
    document_lines (codes "bounded") instance Knapsack (result_words (bounded_claim answer))
    (bounded_backing instance answer.numbers answer.tokens)

-- the document, a line feed after each line
unfoldable pub bounded_text : PlainInstance → BoundedAnswer → List ℕ
bounded_text instance answer = lines_text (bounded_lines instance answer)
