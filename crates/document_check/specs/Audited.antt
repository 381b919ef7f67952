-- What the audit of bytes in memory comes to.
use Rattle.std.specs.Prelude.{ℕ, ◌≡◌, List, Ok, Err}
use Rattle.text_terms.specs.declared.claim.Claim.{Claim}
use Rattle.text_terms.specs.Claims.{IsTrueOf}
use Rattle.verdict_terms.specs.declared.heading.Heading.{Heading}
use Rattle.verdict_terms.specs.Documents.{headed_verdict}
use Rattle.verdict_terms.specs.Form.{IsHeadedDocument}
use Rattle.document_check.specs.declared.audit.Audit.{Audit}
use Rattle.document_check.specs.declared.audit.Audit.TheVariants.{Verified, Refused, NoMemory}

-- the verdict on the bytes under this heading, unless memory was refused
abbrev pub IsAudited : Heading → List ℕ → Audit → Type 0
IsAudited heading bytes (Verified claim) = headed_verdict heading bytes ≡ Ok claim
IsAudited heading bytes (Refused line reason) =
    headed_verdict heading bytes ≡ Err (record { line = line; reason = reason })
IsAudited heading bytes NoMemory = Unit {0}

-- the bytes are a document of the claim, which is true of the instance in it
pub record IsTrueDocument (heading : Heading) (bytes : List ℕ) (claim : Claim) : Type 0 where
  pub document : IsHeadedDocument heading bytes claim
  pub truth : IsTrueOf document.instance claim

-- what is verified is true
abbrev pub IsTrueAudit : Heading → List ℕ → Audit → Type 0
IsTrueAudit heading bytes (Verified claim) = IsTrueDocument heading bytes claim
IsTrueAudit heading bytes _ = Unit {0}
