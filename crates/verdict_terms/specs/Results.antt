-- The claim of a result line. The tests are, in this order, its form, the ranges of its numbers,
-- and that it claims something.
use Rattle.std.specs.Prelude.{ℕ, ◌&&◌, cond, List, [], ◌∷◌, Result, Ok, Err, nat_le, nat_lt, codes}
use Rattle.packing_terms.specs.Packing.{PlainInstance, box_count}
use Rattle.text_terms.specs.Lines.{same_bytes}
use Rattle.packing_terms.specs.Results.{◌>>=◌}
use Rattle.text_terms.specs.declared.claim.SolvingJob.{SolvingJob}
use Rattle.text_terms.specs.declared.claim.Claim.{Claim}
use Rattle.text_terms.specs.declared.claim.SolvingJob.TheVariants.{Fit, Strip, Bins, Knapsack}
use Rattle.text_terms.specs.declared.claim.Claim.TheVariants.{Fitting, NotFitting, LeastHeight, HeightBetween}
use Rattle.text_terms.specs.declared.claim.Claim.TheVariants.{NoHeight, LeastBins, BinsBetween, NoBins}
use Rattle.text_terms.specs.declared.claim.Claim.TheVariants.{GreatestValue, ValueBetween}
use Rattle.verdict_terms.specs.declared.reason.Reason.{Reason}
use Rattle.verdict_terms.specs.Reasons.{form, range}
use Rattle.verdict_terms.specs.declared.reason.Reason.TheVariants.{NoClaim}
use Rattle.packing_terms.specs.Limits.{max_height}
use Rattle.text_terms.specs.Claims.{max_worth}
use Rattle.verdict_terms.specs.Numbers.{require, wanted}

-- `none`
abbrev pub none_claim : Claim → List ℕ → Result Claim Reason
none_claim claim word = require (same_bytes word (codes "none")) form (Ok claim)

-- a number behind this word, within these ends
abbrev pub one_claim : List ℕ → ℕ → ℕ → (ℕ → Claim) → List ℕ → List ℕ → Result Claim Reason
one_claim key low high make word number =
    cond (same_bytes word key) (wanted number >>= λ n. require (nat_le low n && nat_le n high) range
    (Ok (make n))) (Err form)

-- two numbers behind `between`, the first below the second, which is within the end
abbrev pub two_claim : ℕ → (ℕ → ℕ → Claim) → List ℕ → List ℕ → List ℕ → Result Claim Reason
two_claim high make word first second =
    cond (same_bytes word (codes "between")) (wanted first >>= λ a. wanted second >>= λ b.
    require (nat_lt a b && nat_le b high) range (Ok (make a b))) (Err form)

-- the claim of a result line, by the words behind `result`
unfoldable pub claim_of : SolvingJob → PlainInstance → List (List ℕ) → Result Claim Reason
claim_of Fit instance (word ∷ []) =
    cond (same_bytes word (codes "yes")) (Ok Fitting) (
    cond (same_bytes word (codes "no")) (Ok NotFitting) (
    cond (same_bytes word (codes "undecided")) (Err NoClaim) (Err form)))
claim_of Strip instance (word ∷ []) = none_claim NoHeight word
claim_of Strip instance (word ∷ number ∷ []) = one_claim (codes "least") 1 max_height LeastHeight word number
claim_of Strip instance (word ∷ first ∷ second ∷ []) = two_claim max_height HeightBetween word first second
claim_of Bins instance (word ∷ []) = none_claim NoBins word
claim_of Bins instance (word ∷ number ∷ []) = one_claim (codes "least") 1 (box_count instance) LeastBins word number
claim_of Bins instance (word ∷ first ∷ second ∷ []) = two_claim (box_count instance) BinsBetween word first second
claim_of Knapsack instance (word ∷ number ∷ []) = one_claim (codes "greatest") 0 max_worth GreatestValue word number
claim_of Knapsack instance (word ∷ first ∷ second ∷ []) = two_claim max_worth ValueBetween word first second
claim_of _ _ _ = Err form
