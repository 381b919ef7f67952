-- The form of a document of a front: what its lines that aren't blank are, in order.
use Rattle.std.specs.Prelude.{ℕ, ◌≡◌, Bool, true, false, List, [], ◌∷◌, ◌++◌, Some, Ok, codes}
use Rattle.packing_terms.specs.Packing.{dims}
use Rattle.text_terms.specs.Lines.{text_lines}
use Rattle.text_terms.specs.Form.{AreClean, filled_lines, IsNumber, HasForm}
use Rattle.verdict_terms.specs.declared.front_answers.FrontVerdict.TheVariants.{Good}
use Rattle.verdict_terms.specs.Lines.{PlainLine}
use Rattle.verdict_terms.specs.Verdicts.{front_verdict}
use Rattle.verdict_terms.specs.FrontDocumentVerdicts.{FrontClaim, FrontRead, most_points, line_named, front_document_verdict}

-- the first word behind `result`
abbrev pub front_word : Bool → List ℕ
front_word true = codes "front"
front_word false = codes "partial"

-- the words behind `result` say the claim
pub record IsFrontResult (claim : FrontClaim) (words : List (List ℕ)) : Type 0 where
  pub number : List ℕ
  pub are : words ≡ front_word claim.complete ∷ number ∷ []
  pub is_number : IsNumber 0 most_points number claim.points

-- the lines are these of a front, one each
abbrev pub AreFrontLines : List (List (List ℕ)) → List PlainLine → Type 0
AreFrontLines [] [] = Unit {0}
AreFrontLines [] (line ∷ lines) = ⊥
AreFrontLines (words ∷ more) [] = ⊥
AreFrontLines (words ∷ more) (line ∷ lines) = (line_named words ≡ Some line) × AreFrontLines more lines

-- No line has a bad byte, and the lines that aren't blank are, in this order, `front`, the lines of
-- the instance, which has two dimensions, the result line of the claim, good lines of corners and
-- points, and `end`.
pub record IsFrontDocument (text : List ℕ) (r : FrontRead) : Type 0 where
  pub written : List (List (List ℕ))
  pub result : List (List ℕ)
  pub body : List (List (List ℕ))
  pub lines : List PlainLine
  pub clean : AreClean (text_lines text)
  pub are : filled_lines (text_lines text)
      ≡ (codes "front" ∷ [])
      ∷ (written ++ (codes "result" ∷ result) ∷ (body ++ (codes "end" ∷ []) ∷ []))
  pub is_instance : HasForm written r.instance
  pub plane : dims r.instance ≡ 2
  pub is_result : IsFrontResult r.claim result
  pub are_lines : AreFrontLines body lines
  pub good : front_verdict r.instance r.claim.complete r.claim.points lines ≡ Good

-- a text that is verified is such a document, of the instance that its lines are
abbrev pub FrontsHaveForm : Type 0
FrontsHaveForm = (text : List ℕ) (r : FrontRead) → front_document_verdict text ≡ Ok r → IsFrontDocument text r
