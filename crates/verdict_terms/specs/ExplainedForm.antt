-- The form of an explained document: what its lines that aren't blank are, in order.
use Rattle.std.specs.Prelude.{ℕ, ◌≡◌, List, [], ◌∷◌, ◌++◌, Some, Ok, codes}
use Rattle.packing_terms.specs.Packing.{PlainInstance, dims}
use Rattle.text_terms.specs.Lines.{text_lines}
use Rattle.text_terms.specs.Form.{AreClean, filled_lines, HasForm}
use Rattle.verdict_terms.specs.Steps.{PlainStep}
use Rattle.verdict_terms.specs.StepLines.{step_of}
use Rattle.verdict_terms.specs.Explaining.{Explains}
use Rattle.verdict_terms.specs.ExplainedDocuments.{explained_verdict}

-- the lines are these steps, one each
abbrev pub AreStepLines : ℕ → List (List (List ℕ)) → List PlainStep → Type 0
AreStepLines d [] [] = Unit {0}
AreStepLines d [] (step ∷ steps) = ⊥
AreStepLines d (words ∷ lines) [] = ⊥
AreStepLines d (words ∷ lines) (step ∷ steps) = (step_of d words ≡ Some step) × AreStepLines d lines steps

-- No line has a bad byte, and the lines that aren't blank are, in this order, `explained fit`, the
-- lines of the instance, `result no`, lines of steps that explain why it has no packing, and `end`.
pub record IsExplainedDocument (text : List ℕ) (instance : PlainInstance) : Type 0 where
  pub written : List (List (List ℕ))
  pub tree : List (List (List ℕ))
  pub steps : List PlainStep
  pub clean : AreClean (text_lines text)
  pub are : filled_lines (text_lines text)
      ≡ (codes "explained" ∷ codes "fit" ∷ [])
      ∷ (written ++ (codes "result" ∷ codes "no" ∷ []) ∷ (tree ++ (codes "end" ∷ []) ∷ []))
  pub is_instance : HasForm written instance
  pub are_steps : AreStepLines (dims instance) tree steps
  pub explained : Explains instance [] steps

-- a text that is verified is such a document, of the instance that its lines are
abbrev pub DocumentsHaveForm : Type 0
DocumentsHaveForm = (text : List ℕ) (instance : PlainInstance) → explained_verdict text ≡ Ok instance
    → IsExplainedDocument text instance
