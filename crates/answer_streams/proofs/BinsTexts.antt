-- The documents of `bins`, written piece by piece.
use Rattle.std.proofs.Common.{◌≡◌, ℕ, ◌+◌, List, [], ◌∷◌, ◌++◌, codes}
use Rattle.std.specs.Fmt.{decimal}
use Rattle.packing_terms.specs.Packing.{PlainInstance}
use Rattle.packing_terms.specs.Tokens.{PlainToken}
use Rattle.packing_terms.specs.Tokens.PlainToken.{TooLarge}
use Rattle.text_terms.specs.Spelling.{lines_text, instance_text}
use Rattle.text_terms.specs.declared.claim.Claim.TheVariants.{LeastBins, BinsBetween, NoBins}
use Rattle.proof_tree.specs.Lines.{token_line}
use Rattle.answer_terms.specs.Answers.{bin_lines, proved_lines, answer_text}
use Rattle.answer_terms.specs.Answers.Answer.{Claimed}
use Rattle.answer_terms.specs.Solved.{none_answer}
use Rattle.answer_streams.proofs.ResultTexts.{whole, none_whole}

pub least_text : (instance : PlainInstance) (bins : ℕ) (numbers : List ℕ) (tokens : List PlainToken)
    → (codes "answer bins\n" ++ instance_text instance)
    ++ (lines_text ((codes "result" ∷ codes "least" ∷ decimal bins ∷ []) ∷ [])
    ++ (lines_text (proved_lines (bin_lines instance numbers) tokens) ++ codes "end\n"))
    ≡ answer_text instance (Claimed (LeastBins bins) numbers tokens)
unfolding answer_text
least_text instance bins numbers tokens =
    whole (codes "answer" ∷ codes "bins" ∷ []) instance (codes "least" ∷ decimal bins ∷ [])
    (proved_lines (bin_lines instance numbers) tokens)

pub between_text : (instance : PlainInstance) (refuted placed : ℕ) (numbers : List ℕ) (tokens : List PlainToken)
    → (codes "answer bins\n" ++ instance_text instance)
    ++ (lines_text ((codes "result" ∷ codes "between" ∷ decimal refuted ∷ decimal placed ∷ []) ∷ [])
    ++ (lines_text (proved_lines (bin_lines instance numbers) tokens) ++ codes "end\n"))
    ≡ answer_text instance (Claimed (BinsBetween refuted placed) numbers tokens)
unfolding answer_text
between_text instance refuted placed numbers tokens =
    whole (codes "answer" ∷ codes "bins" ∷ []) instance (codes "between" ∷ decimal refuted ∷ decimal placed ∷ [])
    (proved_lines (bin_lines instance numbers) tokens)

pub none_text : (instance : PlainInstance) (v i : ℕ)
    → (codes "answer bins\n" ++ instance_text instance)
    ++ ((codes "result none\n" ++ token_line (TooLarge (v + 1) (i + 1))) ++ codes "end\n")
    ≡ answer_text instance (none_answer NoBins (v, i))
unfolding answer_text
none_text instance v i = none_whole (codes "answer" ∷ codes "bins" ∷ []) instance v i
