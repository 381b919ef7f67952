-- The documents of `strip`, by what their trees begin with, written piece by piece.
use Rattle.std.proofs.Common.{◌≡◌, ℕ, ◌+◌, List, [], ◌∷◌, ◌++◌, ap, ◌∙◌, codes}
use Rattle.std.specs.Fmt.{decimal}
use Rattle.packing_terms.specs.Packing.{PlainInstance}
use Rattle.packing_terms.specs.Tokens.{PlainToken}
use Rattle.packing_terms.specs.Tokens.PlainToken.{TooLarge}
use Rattle.text_terms.specs.Spelling.{lines_text, instance_text}
use Rattle.text_terms.specs.declared.claim.Claim.TheVariants.{LeastHeight, HeightBetween, NoHeight}
use Rattle.proof_tree.specs.Lines.{token_line}
use Rattle.answer_streams.specs.declared.tree_start.TreeStart.{TreeStart}
use Rattle.answer_streams.specs.declared.tree_start.TreeStart.TheVariants.{Nothing, Facts}
use Rattle.answer_terms.specs.Answers.{place_lines, proved_lines, answer_text}
use Rattle.answer_terms.specs.Answers.Answer.{Claimed}
use Rattle.answer_terms.specs.Reduced.{reduced_text}
use Rattle.answer_terms.specs.Solved.{none_answer}
use Rattle.answer_streams.specs.Headed.{strip_line, headed_text}
use Rattle.answer_streams.proofs.ResultTexts.{whole, none_whole}

least_whole : (start : TreeStart) (instance : PlainInstance) (height : ℕ) (places : List ℕ) (tokens : List PlainToken)
    → (strip_line start ++ instance_text instance)
    ++ (lines_text ((codes "result" ∷ codes "least" ∷ decimal height ∷ []) ∷ [])
    ++ (lines_text (proved_lines (place_lines instance places) tokens) ++ codes "end\n"))
    ≡ headed_text start instance (Claimed (LeastHeight height) places tokens)
unfolding answer_text reduced_text
least_whole Nothing instance height places tokens =
    whole (codes "answer" ∷ codes "strip" ∷ []) instance (codes "least" ∷ decimal height ∷ [])
    (proved_lines (place_lines instance places) tokens)
least_whole Facts instance height places tokens =
    whole (codes "reduced" ∷ codes "strip" ∷ []) instance (codes "least" ∷ decimal height ∷ [])
    (proved_lines (place_lines instance places) tokens)

between_whole : (start : TreeStart) (instance : PlainInstance) (refuted placed : ℕ) (places : List ℕ)
    (tokens : List PlainToken)
    → (strip_line start ++ instance_text instance)
    ++ (lines_text ((codes "result" ∷ codes "between" ∷ decimal refuted ∷ decimal placed ∷ []) ∷ [])
    ++ (lines_text (proved_lines (place_lines instance places) tokens) ++ codes "end\n"))
    ≡ headed_text start instance (Claimed (HeightBetween refuted placed) places tokens)
unfolding answer_text reduced_text
between_whole Nothing instance refuted placed places tokens =
    whole (codes "answer" ∷ codes "strip" ∷ []) instance (codes "between" ∷ decimal refuted ∷ decimal placed ∷ [])
    (proved_lines (place_lines instance places) tokens)
between_whole Facts instance refuted placed places tokens =
    whole (codes "reduced" ∷ codes "strip" ∷ []) instance (codes "between" ∷ decimal refuted ∷ decimal placed ∷ [])
    (proved_lines (place_lines instance places) tokens)

no_height_whole : (start : TreeStart) (instance : PlainInstance) (v i : ℕ)
    → (strip_line start ++ instance_text instance)
    ++ ((codes "result none\n" ++ token_line (TooLarge (v + 1) (i + 1))) ++ codes "end\n")
    ≡ headed_text start instance (none_answer NoHeight (v, i))
unfolding answer_text reduced_text
no_height_whole Nothing instance v i = none_whole (codes "answer" ∷ codes "strip" ∷ []) instance v i
no_height_whole Facts instance v i = none_whole (codes "reduced" ∷ codes "strip" ∷ []) instance v i

-- the first line, however it is given
module _ (start : TreeStart) (first : List ℕ) (is : first ≡ strip_line start) (instance : PlainInstance) where
  opened : (rest text : List ℕ) → (strip_line start ++ instance_text instance) ++ rest ≡ text
      → (first ++ instance_text instance) ++ rest ≡ text
  opened rest text e = ap (λ line. (line ++ instance_text instance) ++ rest) is ∙ e

  pub least_text : (height : ℕ) (places : List ℕ) (tokens : List PlainToken)
      → (first ++ instance_text instance) ++ (lines_text ((codes "result" ∷ codes "least" ∷ decimal height ∷ []) ∷ [])
      ++ (lines_text (proved_lines (place_lines instance places) tokens) ++ codes "end\n"))
      ≡ headed_text start instance (Claimed (LeastHeight height) places tokens)
  least_text height places tokens = opened _ _ (least_whole start instance height places tokens)

  pub between_text : (refuted placed : ℕ) (places : List ℕ) (tokens : List PlainToken)
      → (first ++ instance_text instance)
      ++ (lines_text ((codes "result" ∷ codes "between" ∷ decimal refuted ∷ decimal placed ∷ []) ∷ [])
      ++ (lines_text (proved_lines (place_lines instance places) tokens) ++ codes "end\n"))
      ≡ headed_text start instance (Claimed (HeightBetween refuted placed) places tokens)
  between_text refuted placed places tokens = opened _ _ (between_whole start instance refuted placed places tokens)

  pub none_text : (v i : ℕ)
      → (first ++ instance_text instance)
      ++ ((codes "result none\n" ++ token_line (TooLarge (v + 1) (i + 1))) ++ codes "end\n")
      ≡ headed_text start instance (none_answer NoHeight (v, i))
  none_text v i = opened _ _ (no_height_whole start instance v i)
