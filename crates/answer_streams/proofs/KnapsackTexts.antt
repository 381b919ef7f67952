-- The documents of `knapsack`, written piece by piece.
use Rattle.std.proofs.Common.{◌≡◌, ℕ, List, [], ◌∷◌, ◌++◌, codes}
use Rattle.std.specs.Fmt.{decimal}
use Rattle.packing_terms.specs.Packing.{PlainInstance}
use Rattle.packing_terms.specs.Tokens.{PlainToken}
use Rattle.text_terms.specs.Spelling.{lines_text, instance_text}
use Rattle.text_terms.specs.declared.claim.Claim.TheVariants.{GreatestValue, ValueBetween}
use Rattle.answer_terms.specs.Answers.{take_lines, proved_lines, answer_text}
use Rattle.answer_terms.specs.Answers.Answer.{Claimed}
use Rattle.answer_streams.proofs.ResultTexts.{whole}

pub greatest_text : (instance : PlainInstance) (value : ℕ) (numbers : List ℕ) (tokens : List PlainToken)
    → (codes "answer knapsack\n" ++ instance_text instance)
    ++ (lines_text ((codes "result" ∷ codes "greatest" ∷ decimal value ∷ []) ∷ [])
    ++ (lines_text (proved_lines (take_lines instance numbers) tokens) ++ codes "end\n"))
    ≡ answer_text instance (Claimed (GreatestValue value) numbers tokens)
unfolding answer_text
greatest_text instance value numbers tokens =
    whole (codes "answer" ∷ codes "knapsack" ∷ []) instance (codes "greatest" ∷ decimal value ∷ [])
    (proved_lines (take_lines instance numbers) tokens)

pub between_text : (instance : PlainInstance) (placed refuted : ℕ) (numbers : List ℕ) (tokens : List PlainToken)
    → (codes "answer knapsack\n" ++ instance_text instance)
    ++ (lines_text ((codes "result" ∷ codes "between" ∷ decimal placed ∷ decimal refuted ∷ []) ∷ [])
    ++ (lines_text (proved_lines (take_lines instance numbers) tokens) ++ codes "end\n"))
    ≡ answer_text instance (Claimed (ValueBetween placed refuted) numbers tokens)
unfolding answer_text
between_text instance placed refuted numbers tokens =
    whole (codes "answer" ∷ codes "knapsack" ∷ []) instance (codes "between" ∷ decimal placed ∷ decimal refuted ∷ [])
    (proved_lines (take_lines instance numbers) tokens)
