-- The text of an explained document, as the words of its lines in order.
--
--     explained fit          instance lines          result no          steps and tokens          end
use Rattle.std.specs.Prelude.{ℕ, List, [], ◌∷◌, ◌++◌, map, codes}
use Rattle.packing_terms.specs.Packing.{PlainInstance}
use Rattle.text_terms.specs.Spelling.{instance_words, lines_text}
use Rattle.verdict_terms.specs.Steps.{PlainStep}
use Rattle.verdict_terms.specs.StepLines.{step_words}
use Rattle.answer_terms.specs.Answers.{Lines}

-- a line for each step
abbrev pub step_lines : List PlainStep → Lines
step_lines steps = map step_words steps

abbrev pub explained_lines : PlainInstance → List PlainStep → Lines
explained_lines instance steps =
    (codes "explained" ∷ codes "fit" ∷ [])
    ∷ (instance_words instance ++ (codes "result" ∷ codes "no" ∷ []) ∷ (step_lines steps ++ (codes "end" ∷ []) ∷ []))

-- the document, a line feed after each line
unfoldable pub explained_text : PlainInstance → List PlainStep → List ℕ
explained_text instance steps = lines_text (explained_lines instance steps)
