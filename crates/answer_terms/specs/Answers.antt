-- The answer of a solving job, its status, and its text: a document in the one spelling, as the
-- words of its lines in order.
--
--     answer JOB          instance lines          result ..          places, proof, tokens          end
use Rattle.std.specs.Prelude.{ℕ, suc, ◌+◌, ◌*◌, ◌/◌, List, [], ◌∷◌, ◌++◌, length, map, slice_index, codes}
use Rattle.std.specs.Fmt.{decimal}
use Rattle.packing_terms.specs.Packing.{PlainInstance, dims, box_count, place}
use Rattle.packing_terms.specs.Tokens.{PlainToken}
use Rattle.packing_terms.specs.Sums.{below}
use Rattle.text_terms.specs.Spelling.{instance_words, lines_text}
use Rattle.text_terms.specs.declared.claim.SolvingJob.{SolvingJob}
use Rattle.text_terms.specs.declared.claim.Claim.{Claim}
use Rattle.text_terms.specs.Claims.{job_of, job_word, result_words}
use Rattle.text_terms.specs.declared.claim.SolvingJob.TheVariants.{Fit}
use Rattle.text_terms.specs.declared.claim.Claim.TheVariants.{Fitting, NotFitting, LeastHeight, HeightBetween}
use Rattle.text_terms.specs.declared.claim.Claim.TheVariants.{NoHeight, LeastBins, BinsBetween, NoBins}
use Rattle.text_terms.specs.declared.claim.Claim.TheVariants.{GreatestValue, ValueBetween}
use Rattle.text_terms.specs.TokenLines.{token_words}

-- Undecided, or a claim with the flat numbers of an answer, which show what the claim places, and
-- the tokens of a refutation of what it refutes. A claim that places nothing has no numbers, and
-- one that refutes nothing has no tokens.
pub data Answer : Type 0 where
  Undecided : Answer
  Claimed : (claim : Claim) (numbers : List ℕ) (tokens : List PlainToken) → Answer

-- ---- the status

abbrev pub claim_status : Claim → ℕ
claim_status Fitting = 0
claim_status NotFitting = 1
claim_status (LeastHeight h) = 0
claim_status (HeightBetween a b) = 3
claim_status NoHeight = 1
claim_status (LeastBins k) = 0
claim_status (BinsBetween a b) = 3
claim_status NoBins = 1
claim_status (GreatestValue v) = 0
claim_status (ValueBetween a b) = 3

abbrev pub status_of : Answer → ℕ
status_of Undecided = 3
status_of (Claimed claim numbers tokens) = claim_status claim

-- ---- the lines

abbrev pub Lines : Type 0
Lines = List (List (List ℕ))

-- `place X1 .. Xd` of box v
abbrev pub place_words : PlainInstance → List ℕ → ℕ → List (List ℕ)
place_words instance places v = codes "place" ∷ map (λ i. decimal (place instance places v i)) (below (dims instance))

-- A first word, a number and d coordinates: the numbers k * (d + 1) and following. The first is a
-- bin or a box, which the text counts from 1.
abbrev pub numbered_words : List ℕ → ℕ → List ℕ → ℕ → List (List ℕ)
numbered_words key d numbers k =
    key ∷ decimal (suc (slice_index numbers (k * (d + 1))))
    ∷ map (λ i. decimal (slice_index numbers (k * (d + 1) + (1 + i)))) (below d)

-- a line for each box
abbrev pub place_lines : PlainInstance → List ℕ → Lines
place_lines instance places = map (place_words instance places) (below (box_count instance))

-- a line for each box, with its bin
abbrev pub bin_lines : PlainInstance → List ℕ → Lines
bin_lines instance numbers = map (numbered_words (codes "place") (dims instance) numbers) (below (box_count instance))

-- a line for each taken box
abbrev pub take_lines : PlainInstance → List ℕ → Lines
take_lines instance numbers =
    map (numbered_words (codes "take") (dims instance) numbers) (below (length numbers / (dims instance + 1)))

abbrev pub token_lines : List PlainToken → Lines
token_lines tokens = map token_words tokens

-- lines of what is placed, then `proof`, then lines of what is refuted
abbrev pub proved_lines : Lines → List PlainToken → Lines
proved_lines front tokens = front ++ (codes "proof" ∷ []) ∷ token_lines tokens

-- what stands between the result line and `end`
abbrev pub backing_lines : PlainInstance → Claim → List ℕ → List PlainToken → Lines
backing_lines instance Fitting numbers tokens = place_lines instance numbers
backing_lines instance NotFitting numbers tokens = token_lines tokens
backing_lines instance (LeastHeight h) numbers tokens = proved_lines (place_lines instance numbers) tokens
backing_lines instance (HeightBetween a b) numbers tokens = proved_lines (place_lines instance numbers) tokens
backing_lines instance NoHeight numbers tokens = token_lines tokens
backing_lines instance (LeastBins k) numbers tokens = proved_lines (bin_lines instance numbers) tokens
backing_lines instance (BinsBetween a b) numbers tokens = proved_lines (bin_lines instance numbers) tokens
backing_lines instance NoBins numbers tokens = token_lines tokens
backing_lines instance (GreatestValue v) numbers tokens = proved_lines (take_lines instance numbers) tokens
backing_lines instance (ValueBetween a b) numbers tokens = proved_lines (take_lines instance numbers) tokens

-- a first word with the job, the instance, `result` with these words, what follows, and `end`
abbrev pub document_lines : List ℕ → PlainInstance → SolvingJob → List (List ℕ) → Lines → Lines
document_lines key instance job result backing =
    (key ∷ job_word job ∷ []) ∷ (instance_words instance ++ (codes "result" ∷ result)
    ∷ (backing ++ (codes "end" ∷ []) ∷ []))

-- the lines of an answer behind this first word
abbrev pub headed_lines : List ℕ → PlainInstance → Answer → Lines
headed_lines key instance Undecided = document_lines key instance Fit (codes "undecided" ∷ []) []
headed_lines key instance (Claimed claim numbers tokens) =
    document_lines key instance (job_of claim) (result_words claim) (backing_lines instance claim numbers tokens)

-- those that begin with `answer JOB`
abbrev pub answer_lines : PlainInstance → Answer → Lines
answer_lines instance answer = headed_lines (codes "answer") instance answer

-- the document, a line feed after each line
unfoldable pub answer_text : PlainInstance → Answer → List ℕ
answer_text instance answer = lines_text (answer_lines instance answer)
