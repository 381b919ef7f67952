-- What a document is explained as.
use Rattle.std.proofs.Common.{◌≡◌, ◌∙◌, ℕ, refl, sym, ap, subst, true, false, List, [], Ok, Err}
use Rattle.packing_terms.specs.Limits.{IsInstance}
use Rattle.packing_terms.specs.Packing.{PlainInstance}
use Rattle.packing_terms.specs.Tokens.{PlainToken}
use Rattle.packing_terms.specs.Refutation.{Refutes}
use Rattle.text_terms.specs.Lines.{text_lines}
use Rattle.text_terms.specs.declared.claim.Claim.{Claim}
use Rattle.text_terms.specs.declared.claim.Claim.TheVariants.{Fitting, NotFitting, LeastHeight, HeightBetween}
use Rattle.text_terms.specs.declared.claim.Claim.TheVariants.{NoHeight, LeastBins, BinsBetween, NoBins}
use Rattle.text_terms.specs.declared.claim.Claim.TheVariants.{GreatestValue, ValueBetween}
use Rattle.verdict_terms.specs.declared.heading.Heading.TheVariants.{Answer}
use Rattle.verdict_terms.specs.declared.reason.Reason.{Reason}
use Rattle.verdict_terms.specs.declared.reason.Reason.TheVariants.{NoClaim}
use Rattle.verdict_terms.specs.Documents.{document_verdict, verdict_line}
use Rattle.verdict_terms.proofs.FormGiven.{document_limits}
use Rattle.verdict_terms.proofs.True.{documents_are_true}
use Rattle.verdict_terms.specs.Steps.{PlainStep, tokens_among}
use Rattle.verdict_terms.specs.Explaining.{Explains}
use Rattle.answer_terms.specs.Explained.{explained_text}
use Rattle.answer_streams.specs.Audited.{ExplainedVerdictOf, verdict_of_kind, audit_verdict}
use Rattle.answer_terms.proofs.OwnExplained.{own_explained}
use Rattle.document_audits.specs.Refutations.{IsRefutationIn, result_number}
use Rattle.pack_command.specs.Explanations.{is_no, IsExplanation, IsWrittenFor, unexplained}

-- the tokens of the document refute its instance
pub held_refutes : (bytes : List ℕ) (instance : PlainInstance) (tokens : List PlainToken)
    → IsRefutationIn bytes instance tokens → Refutes instance [] tokens
held_refutes bytes instance tokens r =
    subst (λ i. Refutes i [] tokens) r.of
    (subst (λ ts. Refutes r.document.instance [] ts) r.by r.document.backed.refute)

pub held_limits : (bytes : List ℕ) (instance : PlainInstance) (tokens : List PlainToken)
    → IsRefutationIn bytes instance tokens → IsInstance instance
held_limits bytes instance tokens r = subst IsInstance r.of (document_limits Answer bytes NotFitting r.document)

-- steps that explain the instance, and hold its tokens
pub held_explained : (bytes : List ℕ) (instance : PlainInstance) (tokens : List PlainToken) (steps : List PlainStep)
    → document_verdict bytes ≡ Ok NotFitting
    → IsRefutationIn bytes instance tokens → Explains instance [] steps → tokens_among steps ≡ tokens
    → IsWrittenFor bytes (document_verdict bytes) 0 (explained_text instance steps)
held_explained bytes instance tokens steps e r explains same =
    subst (λ v. IsWrittenFor bytes v 0 (explained_text instance steps)) (sym e) (refl, shown)
  where
    mine : Explains r.document.instance [] steps
    mine = subst (λ i. Explains i [] steps) (sym r.of) explains

    text_is : explained_text instance steps ≡ explained_text r.document.instance steps
    text_is = ap (λ i. explained_text i steps) (sym r.of)

    audited : audit_verdict (explained_text r.document.instance steps) ≡ ExplainedVerdictOf (Ok r.document.instance)
    audited =
        let own = own_explained r.document.instance steps (document_limits Answer bytes NotFitting r.document) mine in
        ap (λ k. verdict_of_kind k (explained_text r.document.instance steps)) own.kind
        ∙ ap ExplainedVerdictOf own.verified

    shown : IsExplanation bytes (explained_text instance steps)
    shown = record {
      document = r.document;
      steps = steps;
      explains = mine;
      same = same ∙ sym r.by;
      text_is = text_is;
      verified = subst (λ t. audit_verdict t ≡ ExplainedVerdictOf (Ok r.document.instance)) (sym text_is) audited;
      none = documents_are_true Answer bytes NotFitting r.document;
    }

pub no_is : (claim : Claim) → is_no claim ≡ true → claim ≡ NotFitting
no_is NotFitting e = refl
no_is Fitting e = absurd (cc (e))
no_is (LeastHeight h) e = absurd (cc (e))
no_is (HeightBetween a b) e = absurd (cc (e))
no_is NoHeight e = absurd (cc (e))
no_is (LeastBins k) e = absurd (cc (e))
no_is (BinsBetween a b) e = absurd (cc (e))
no_is NoBins e = absurd (cc (e))
no_is (GreatestValue v) e = absurd (cc (e))
no_is (ValueBetween a b) e = absurd (cc (e))

-- a claim that isn't a no is refused at the result line
pub other_refused : (bytes : List ℕ) (claim : Claim) (line : ℕ) → document_verdict bytes ≡ Ok claim
    → is_no claim ≡ false → line ≡ result_number (text_lines bytes)
    → IsWrittenFor bytes (document_verdict bytes) 1 (verdict_line (Err (record { line = line; reason = NoClaim })))
other_refused bytes claim line e other is =
    subst (λ v. IsWrittenFor bytes v 1 (verdict_line (Err (record { line = line; reason = NoClaim })))) (sym e)
    (go claim other)
  where
    text_is : verdict_line (Err (record { line = line; reason = NoClaim })) ≡ verdict_line (Err (unexplained bytes))
    text_is = ap (λ n. verdict_line (Err (record { line = n; reason = NoClaim }))) is

    go : (c : Claim) → is_no c ≡ false
        → IsWrittenFor bytes (Ok c) 1 (verdict_line (Err (record { line = line; reason = NoClaim })))
    go NotFitting e = absurd (cc (e))
    go Fitting e = record { status_is = refl; line = text_is }
    go (LeastHeight h) e = record { status_is = refl; line = text_is }
    go (HeightBetween a b) e = record { status_is = refl; line = text_is }
    go NoHeight e = record { status_is = refl; line = text_is }
    go (LeastBins k) e = record { status_is = refl; line = text_is }
    go (BinsBetween a b) e = record { status_is = refl; line = text_is }
    go NoBins e = record { status_is = refl; line = text_is }
    go (GreatestValue v) e = record { status_is = refl; line = text_is }
    go (ValueBetween a b) e = record { status_is = refl; line = text_is }

pub bad_refused : (bytes : List ℕ) (line : ℕ) (reason : Reason)
    → document_verdict bytes ≡ Err (record { line = line; reason = reason })
    → IsWrittenFor bytes (document_verdict bytes) 1 (verdict_line (Err (record { line = line; reason = reason })))
bad_refused bytes line reason e =
    subst (λ v. IsWrittenFor bytes v 1 (verdict_line (Err (record { line = line; reason = reason })))) (sym e)
    (record { status_is = refl; line = refl })
