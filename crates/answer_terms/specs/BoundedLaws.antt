-- What is promised of these documents.
use Rattle.std.specs.Prelude.{ℕ, suc, ◌≡◌, List, Ok}
use Rattle.packing_terms.specs.Packing.{PlainInstance}
use Rattle.packing_terms.specs.Limits.{IsInstance}
use Rattle.packing_terms.specs.Goals.{IsGreatestValue}
use Rattle.text_terms.specs.declared.claim.Claim.{Claim}
use Rattle.text_terms.specs.declared.claim.Claim.TheVariants.{GreatestValue, ValueBetween}
use Rattle.text_terms.specs.Claims.{IsValueBetween}
use Rattle.verdict_terms.specs.Documents.{bounded_verdict}
use Rattle.verdict_terms.specs.Form.{IsBoundedDocument}
use Rattle.verdict_terms.specs.declared.kind.DocumentKind.TheVariants.{Bounded}
use Rattle.verdict_terms.specs.Kinds.{document_kind}
use Rattle.answer_terms.specs.BoundedAnswers.{BoundedAnswer, IsBoundedAnswer, bounded_claim, bounded_text}

-- the text is a bounded document of the claim, also by its first line, verified with the claim, and the
-- instance in it is this one
pub record IsBoundedFor (instance : PlainInstance) (text : List ℕ) (claim : Claim) : Type 0 where
  pub document : IsBoundedDocument text claim
  pub about : document.instance ≡ instance
  pub kind : document_kind text ≡ Bounded
  pub verified : bounded_verdict text ≡ Ok claim

-- the document of an answer is verified with its claim, and about the instance
abbrev pub OwnBoundedDocumentsAreVerified : Type 0
OwnBoundedDocumentsAreVerified = (instance : PlainInstance) (answer : BoundedAnswer)
    → IsInstance instance → IsBoundedAnswer instance answer
    → IsBoundedFor instance (bounded_text instance answer) (bounded_claim answer)

-- the placed value is the greatest over all sets that fit if the refuted value is one more, and else the
-- greatest one lies between the two
abbrev pub BoundedAnswersAreTrue : Type 0
BoundedAnswersAreTrue = (instance : PlainInstance) (answer : BoundedAnswer)
    → IsInstance instance → IsBoundedAnswer instance answer
    → (suc answer.placed ≡ answer.refuted → IsGreatestValue instance answer.placed)
    × IsValueBetween instance answer.placed answer.refuted

-- the claim is that the placed value is the greatest if the refuted value is one more, and else that the
-- greatest one lies between the two
abbrev pub BoundedClaimsAreTold : Type 0
BoundedClaimsAreTold = (answer : BoundedAnswer)
    → (suc answer.placed ≡ answer.refuted → bounded_claim answer ≡ GreatestValue answer.placed)
    × (¬ (suc answer.placed ≡ answer.refuted) → bounded_claim answer ≡ ValueBetween answer.placed answer.refuted)
