-- The parts of the one line of a verdict.
use Rattle.std.specs.Prelude.{ℕ, List, [], ◌∷◌, ◌++◌, codes}
use Rattle.std.specs.List.{flat_map}
use Rattle.std.specs.Fmt.{decimal}
use Rattle.verdict_terms.specs.declared.check_answers.RefuseCode.{RefuseCode}
use Rattle.text_terms.specs.declared.claim.Claim.{Claim}
use Rattle.text_terms.specs.declared.claim.Claim.TheVariants.{Fitting, NotFitting, LeastHeight, HeightBetween}
use Rattle.text_terms.specs.declared.claim.Claim.TheVariants.{NoHeight, LeastBins, BinsBetween, NoBins}
use Rattle.text_terms.specs.declared.claim.Claim.TheVariants.{GreatestValue, ValueBetween}
use Rattle.verdict_terms.specs.declared.reason.Reason.{Reason}
use Rattle.verdict_terms.specs.Reasons.{code_word, reason_words}

-- a text, a number and a line feed
abbrev pub number_line : List ℕ → ℕ → List ℕ
number_line text number = text ++ (decimal number ++ 10 ∷ [])

-- a text, two numbers with a space between them and a line feed
abbrev pub pair_line : List ℕ → ℕ → ℕ → List ℕ
pair_line text first second = text ++ (decimal first ++ (32 ∷ (decimal second ++ 10 ∷ [])))

-- the end of the line of a refusal from the space before the reason on
abbrev pub reason_end : Reason → List ℕ
reason_end reason = flat_map (λ word. 32 ∷ word) (reason_words reason) ++ 10 ∷ []

abbrev pub code_end : RefuseCode → List ℕ
code_end code = 32 ∷ (code_word code ++ 10 ∷ [])

-- the line of a claim from its job on, as it is written
abbrev pub claim_text : Claim → List ℕ
claim_text Fitting = codes "fit yes\n"
claim_text NotFitting = codes "fit no\n"
claim_text (LeastHeight h) = number_line (codes "strip least ") h
claim_text (HeightBetween a b) = pair_line (codes "strip between ") a b
claim_text NoHeight = codes "strip none\n"
claim_text (LeastBins k) = number_line (codes "bins least ") k
claim_text (BinsBetween a b) = pair_line (codes "bins between ") a b
claim_text NoBins = codes "bins none\n"
claim_text (GreatestValue v) = number_line (codes "knapsack greatest ") v
claim_text (ValueBetween a b) = pair_line (codes "knapsack between ") a b
