-- What explaining a document promises.
use Rattle.std.specs.Prelude.{ℕ, ◌≡◌, Bool, true, false, List, [], Result, Ok, Err}
use Rattle.packing_terms.specs.Packing.{Fits}
use Rattle.text_terms.specs.Lines.{text_lines}
use Rattle.text_terms.specs.declared.claim.Claim.{Claim}
use Rattle.text_terms.specs.declared.claim.Claim.TheVariants.{NotFitting}
use Rattle.verdict_terms.specs.declared.reason.Reason.TheVariants.{NoClaim}
use Rattle.verdict_terms.specs.Documents.{Refusal, document_verdict, verdict_line}
use Rattle.verdict_terms.specs.Form.{IsDocument}
use Rattle.verdict_terms.specs.Steps.{PlainStep, tokens_among}
use Rattle.verdict_terms.specs.Explaining.{Explains}
use Rattle.answer_terms.specs.Explained.{explained_text}
use Rattle.document_audits.specs.Refutations.{result_number}
use Rattle.answer_streams.specs.declared.explained.Explanation.{Explanation}
use Rattle.answer_streams.specs.Audited.{audit_verdict, ExplainedVerdictOf}
use Rattle.answer_streams.specs.Explanations.{explanation_text, explanation_status, IsWritable}

-- The text explains step by step the refutation of a document that says no: the lines of steps are
-- an explained refutation of the document's instance, in which its tokens stand in order. So an
-- audit verifies the text, and the instance has no packing.
pub record IsExplanation (bytes text : List ℕ) : Type 0 where
  pub document : IsDocument bytes NotFitting
  pub steps : List PlainStep
  pub explains : Explains document.instance [] steps
  pub same : tokens_among steps ≡ document.backed.tokens
  pub text_is : text ≡ explained_text document.instance steps
  pub verified : audit_verdict text ≡ ExplainedVerdictOf (Ok document.instance)
  pub none : ¬ Fits document.instance

-- the line of the refusal, with its status
pub record IsRefusal (refusal : Refusal) (status : ℕ) (text : List ℕ) : Type 0 where
  pub status_is : status ≡ 1
  pub line : text ≡ verdict_line (Err refusal)

-- the result line is refused: it claims nothing that can be explained
abbrev pub unexplained : List ℕ → Refusal
unexplained bytes = record { line = result_number (text_lines bytes); reason = NoClaim }

-- What is written of a document with this verdict: its refusal, or an explanation of a no of `fit`;
-- any other claim is refused at the result line.
abbrev pub IsWrittenFor : List ℕ → Result Claim Refusal → ℕ → List ℕ → Type 0
IsWrittenFor bytes (Err refusal) status text = IsRefusal refusal status text
IsWrittenFor bytes (Ok NotFitting) status text = (status ≡ 0) × IsExplanation bytes text
IsWrittenFor bytes (Ok claim) status text = IsRefusal (unexplained bytes) status text

abbrev pub IsExplainedTo : List ℕ → ℕ → List ℕ → Type 0
IsExplainedTo bytes status text = IsWrittenFor bytes (document_verdict bytes) status text

-- whether the claim is that the boxes don't fit
abbrev pub is_no : Claim → Bool
is_no NotFitting = true
is_no claim = false

-- what was found is what the bytes are explained as, and can be written
pub record IsExplained (bytes : List ℕ) (found : Explanation) : Type 0 where
  pub is : IsExplainedTo bytes (explanation_status found) (explanation_text found)
  pub ready : IsWritable found
