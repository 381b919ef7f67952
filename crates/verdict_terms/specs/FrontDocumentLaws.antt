-- What a verified document of a front says, and that the documents of walks are verified.
use Rattle.std.specs.Prelude.{ℕ, ◌≡◌, List, length, Ok}
use Rattle.packing_terms.specs.Packing.{PlainInstance, dims}
use Rattle.packing_terms.specs.Limits.{IsInstance}
use Rattle.verdict_terms.specs.Fronts.{IsClaimed}
use Rattle.verdict_terms.specs.FrontDocumentVerdicts.{FrontClaim, FrontRead, front_document_verdict}
use Rattle.verdict_terms.specs.Points.{points_of_text}

-- these points are as many as the claim says, and they are what it says of the instance
pub record IsTrueFrontOf (instance : PlainInstance) (claim : FrontClaim) (points : List (ℕ × ℕ)) : Type 0 where
  pub count : length points ≡ claim.points
  pub claimed : IsClaimed instance claim.complete points

-- what is verified is true, of the instance in the document, which is within the limits, and of the
-- points that its lines name
abbrev pub VerifiedFrontsAreTrue : Type 0
VerifiedFrontsAreTrue = (text : List ℕ) (r : FrontRead) → front_document_verdict text ≡ Ok r
    → IsInstance r.instance × (dims r.instance ≡ 2) × IsTrueFrontOf r.instance r.claim (points_of_text text)
