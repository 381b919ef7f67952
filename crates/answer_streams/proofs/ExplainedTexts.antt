-- The text of an explained document, part by part.
use Rattle.std.proofs.Common.{◌≡◌, ◌∙◌, ℕ, ◌+◌, ◌<◌, ◌≤◌, sym, ap, codes, List, [], ◌∷◌, ◌++◌, take, length}
use Rattle.std.proofs.Common.{get_or}
use Rattle.std.proofs.lemmas.List.{take_more, take_all, map_push, flat_map_more}
use Rattle.packing_terms.specs.Packing.{PlainInstance}
use Rattle.text_terms.specs.Spelling.{spaced, instance_text, lines_text}
use Rattle.verdict_terms.specs.Steps.{PlainStep}
use Rattle.verdict_terms.specs.StepLines.{step_words}
use Rattle.answer_terms.specs.Explained.{step_lines, explained_text}
use Rattle.line_proofs.specs.StepTexts.{step_line}
use Rattle.answer_streams.proofs.Joined.{parts}

-- one step more
pub steps_more : (ss : List PlainStep) (k : ℕ) (d s : PlainStep) → s ≡ get_or ss k d → k < length ss
    → lines_text (step_lines (take k ss)) ++ step_line s ≡ lines_text (step_lines (take (k + 1) ss))
steps_more ss k d s e l =
    ap (λ x. lines_text (step_lines (take k ss)) ++ step_line x) e
    ∙ flat_map_more (λ words. spaced words ++ 10 ∷ []) [] (step_lines (take k ss)) (step_words (get_or ss k d))
    ∙ sym (ap (λ ts. lines_text (step_lines ts)) (take_more ss k d l)
    ∙ ap lines_text (map_push step_words (take k ss) (get_or ss k d)))

pub steps_all : (ss : List PlainStep) (k : ℕ) → length ss ≤ k
    → lines_text (step_lines (take k ss)) ≡ lines_text (step_lines ss)
steps_all ss k l = ap (λ us. lines_text (step_lines us)) (take_all k ss l)

pub explained_parts : (instance : PlainInstance) (steps : List PlainStep)
    → codes "explained fit\n" ++ (instance_text instance
    ++ (codes "result no\n" ++ (lines_text (step_lines steps) ++ codes "end\n"))) ≡ explained_text instance steps
unfolding explained_text instance_text
explained_parts instance steps =
    sym (parts instance (codes "explained" ∷ codes "fit" ∷ []) (codes "no" ∷ []) (step_lines steps))
