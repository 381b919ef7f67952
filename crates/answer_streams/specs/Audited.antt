-- The verdict on a document by its kind, its line and its status.
use Rattle.std.specs.Prelude.{ℕ, ◌≡◌, Bool, true, false, List, [], ◌∷◌, ◌++◌, Result, Ok, Err, codes}
use Rattle.std.specs.List.{flat_map}
use Rattle.packing_terms.specs.Packing.{PlainInstance, dims}
use Rattle.packing_terms.specs.Limits.{IsInstance}
use Rattle.text_terms.specs.declared.claim.Claim.{Claim}
use Rattle.text_terms.specs.Claims.{IsTrueOf}
use Rattle.verdict_terms.specs.Documents.{Refusal, verdict_line, reduced_verdict, reduced_verdict_line}
use Rattle.verdict_terms.specs.Documents.{bounded_verdict, bounded_verdict_line}
use Rattle.verdict_terms.specs.Form.{IsReducedDocument, IsBoundedDocument}
use Rattle.verdict_terms.specs.declared.explained_answers.AuditCode.{AuditCode}
use Rattle.verdict_terms.specs.declared.kind.DocumentKind.{DocumentKind}
use Rattle.verdict_terms.specs.declared.kind.DocumentKind.TheVariants.{Explained as OfExplained, Front as OfFront}
use Rattle.verdict_terms.specs.declared.kind.DocumentKind.TheVariants.{Reduced as OfReduced, Bounded as OfBounded}
use Rattle.verdict_terms.specs.declared.explained_reason.ExplainedReason.{ExplainedReason}
use Rattle.verdict_terms.specs.Kinds.{document_kind}
use Rattle.verdict_terms.specs.ExplainedDocuments.{ExplainedRefusal, explained_verdict, explained_line, explained_status}
use Rattle.verdict_terms.specs.ExplainedDocuments.{code_word, reason_words, IsShown}
use Rattle.verdict_terms.specs.FrontDocumentVerdicts.{FrontRead, front_document_verdict, front_verdict_line}
use Rattle.verdict_terms.specs.FrontDocumentVerdicts.{front_verdict_status}
use Rattle.verdict_terms.specs.ExplainedForm.{IsExplainedDocument}
use Rattle.verdict_terms.specs.Points.{points_of_text}
use Rattle.verdict_terms.specs.FrontDocumentForm.{IsFrontDocument}
use Rattle.verdict_terms.specs.FrontDocumentLaws.{IsTrueFrontOf}
use Rattle.answer_streams.specs.Lines.{number_line}
use Rattle.answer_streams.specs.Verdicts.{plain_verdict, verdict_status}
use Rattle.answer_streams.specs.declared.audited.AuditedVerdict.{AuditedVerdict}
use Rattle.answer_streams.specs.declared.audited.AuditedVerdict.TheVariants.{Reduced, Bounded, Explained, Front}
use Rattle.answer_streams.specs.declared.audited.ExplainedVerdict.{ExplainedVerdict}
use Rattle.answer_streams.specs.declared.audited.ExplainedVerdict.TheVariants.{Verified, Refused}
use Rattle.answer_streams.specs.declared.audited_fronts.FrontAudited.{FrontAudited}
use Rattle.answer_streams.specs.declared.audited_fronts.FrontAudited.TheVariants.{Verified as VerifiedFront}
use Rattle.answer_streams.specs.declared.audited_fronts.FrontAudited.TheVariants.{Refused as RefusedFront}

-- a verdict, under the kind of the document
pub data KindVerdict : Type 0 where
  ReducedVerdictOf : (verdict : Result Claim Refusal) → KindVerdict
  BoundedVerdictOf : (verdict : Result Claim Refusal) → KindVerdict
  ExplainedVerdictOf : (verdict : Result PlainInstance ExplainedRefusal) → KindVerdict
  FrontVerdictOf : (verdict : Result FrontRead Refusal) → KindVerdict

abbrev pub verdict_of_kind : DocumentKind → List ℕ → KindVerdict
verdict_of_kind OfReduced text = ReducedVerdictOf (reduced_verdict text)
verdict_of_kind OfBounded text = BoundedVerdictOf (bounded_verdict text)
verdict_of_kind OfExplained text = ExplainedVerdictOf (explained_verdict text)
verdict_of_kind OfFront text = FrontVerdictOf (front_document_verdict text)

-- the verdict on a text, by what its first line that isn't blank says
abbrev pub audit_verdict : List ℕ → KindVerdict
audit_verdict text = verdict_of_kind (document_kind text) text

-- the line that is written, and the status
abbrev pub audit_line : KindVerdict → List ℕ
audit_line (ReducedVerdictOf verdict) = reduced_verdict_line verdict
audit_line (BoundedVerdictOf verdict) = bounded_verdict_line verdict
audit_line (ExplainedVerdictOf verdict) = explained_line verdict
audit_line (FrontVerdictOf verdict) = front_verdict_line verdict

abbrev pub audit_status : KindVerdict → ℕ
audit_status (ReducedVerdictOf verdict) = verdict_status verdict
audit_status (BoundedVerdictOf verdict) = verdict_status verdict
audit_status (ExplainedVerdictOf verdict) = explained_status verdict
audit_status (FrontVerdictOf verdict) = front_verdict_status verdict

-- what a verified explained document says of the instance that its lines are
pub record IsTrueExplained (text : List ℕ) (instance : PlainInstance) : Type 0 where
  pub verdict : explained_verdict text ≡ Ok instance
  pub document : IsExplainedDocument text instance
  pub shown : IsShown instance

-- what a verified document of a front says of the instance that its lines are, which is within the
-- limits and has two dimensions: the points that its lines name are as many as the claim says, and are
-- the front, or all of it up to the last of them
pub record IsTrueFrontRead (text : List ℕ) (r : FrontRead) : Type 0 where
  pub verdict : front_document_verdict text ≡ Ok r
  pub document : IsFrontDocument text r
  pub limits : IsInstance r.instance
  pub plane : dims r.instance ≡ 2
  pub front : IsTrueFrontOf r.instance r.claim (points_of_text text)

-- What is verified is true: a reduced or bounded document is one of its claim, which holds of the instance in
-- it; the instance of an explained document has no packing; and the points of a document of a front
-- are what its claim says.
abbrev pub IsTrueVerdict : List ℕ → KindVerdict → Type 0
IsTrueVerdict text (ReducedVerdictOf (Ok claim)) =
    (document : IsReducedDocument text claim) × IsTrueOf document.instance claim
IsTrueVerdict text (ReducedVerdictOf (Err refusal)) = ⊥
IsTrueVerdict text (BoundedVerdictOf (Ok claim)) =
    (document : IsBoundedDocument text claim) × IsTrueOf document.instance claim
IsTrueVerdict text (BoundedVerdictOf (Err refusal)) = ⊥
IsTrueVerdict text (ExplainedVerdictOf (Ok instance)) = IsTrueExplained text instance
IsTrueVerdict text (ExplainedVerdictOf (Err refusal)) = ⊥
IsTrueVerdict text (FrontVerdictOf (Ok r)) = IsTrueFrontRead text r
IsTrueVerdict text (FrontVerdictOf (Err refusal)) = ⊥

-- ---- what is reported

abbrev pub explained_text : ExplainedVerdict → List ℕ
explained_text Verified = codes "verified explained fit no\n"
explained_text (Refused line reason) = explained_line (Err (record { line = line; reason = reason }))

-- what stands before the number of points
abbrev pub verified_front : Bool → List ℕ
verified_front true = codes "verified front "
verified_front false = codes "verified front partial "

abbrev pub front_audit_text : FrontAudited → List ℕ
front_audit_text (VerifiedFront complete points) = number_line (verified_front complete) points
front_audit_text (RefusedFront line reason) = verdict_line (Err (record { line = line; reason = reason }))

abbrev pub front_reported_status : FrontAudited → ℕ
front_reported_status (VerifiedFront complete points) = 0
front_reported_status (RefusedFront line reason) = 1

abbrev pub verdict_text : AuditedVerdict → List ℕ
verdict_text (Reduced verdict) = reduced_verdict_line (plain_verdict verdict)
verdict_text (Bounded verdict) = bounded_verdict_line (plain_verdict verdict)
verdict_text (Explained verdict) = explained_text verdict
verdict_text (Front verdict) = front_audit_text verdict

abbrev pub reported_status : AuditedVerdict → ℕ
reported_status (Reduced verdict) = verdict_status (plain_verdict verdict)
reported_status (Bounded verdict) = verdict_status (plain_verdict verdict)
reported_status (Explained Verified) = 0
reported_status (Explained (Refused line reason)) = 1
reported_status (Front verdict) = front_reported_status verdict

-- the verdict on an explained document
abbrev pub IsExplainedAs : Result PlainInstance ExplainedRefusal → ExplainedVerdict → Type 0
IsExplainedAs verdict Verified = (instance : PlainInstance) × (verdict ≡ Ok instance)
IsExplainedAs verdict (Refused line reason) = verdict ≡ Err (record { line = line; reason = reason })

-- the verdict on a document of a front
abbrev pub IsFrontReportedAs : Result FrontRead Refusal → FrontAudited → Type 0
IsFrontReportedAs verdict (VerifiedFront complete points) =
    (instance : PlainInstance) × (verdict
    ≡ Ok (record { instance = instance; claim = record { complete = complete; points = points } }))
IsFrontReportedAs verdict (RefusedFront line reason) = verdict ≡ Err (record { line = line; reason = reason })

-- the verdict is reported by its line and its status
pub record IsReportedAs (verdict : KindVerdict) (audited : AuditedVerdict) : Type 0 where
  pub line : verdict_text audited ≡ audit_line verdict
  pub status : reported_status audited ≡ audit_status verdict

-- the parts of the line of a refusal
abbrev pub audit_code_end : AuditCode → List ℕ
audit_code_end code = 32 ∷ (code_word code ++ 10 ∷ [])

abbrev pub explained_end : ExplainedReason → List ℕ
explained_end reason = flat_map (λ word. 32 ∷ word) (reason_words reason) ++ 10 ∷ []
