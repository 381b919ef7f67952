-- The line of a verdict, written piece by piece.
use Rattle.std.proofs.Common.{◌≡◌, ℕ, List, [], ◌∷◌, ◌++◌, refl, sym, ap, ◌∙◌, append-nil, append_assoc, Bool, true}
use Rattle.std.proofs.Common.{false, Ok, Err, codes}
use Rattle.std.specs.List.{flat_map}
use Rattle.std.specs.Fmt.{decimal}
use Rattle.packing_terms.specs.Packing.{PlainInstance}
use Rattle.text_terms.specs.declared.claim.Claim.{Claim}
use Rattle.text_terms.specs.declared.claim.Claim.TheVariants.{Fitting, NotFitting, LeastHeight, HeightBetween}
use Rattle.text_terms.specs.declared.claim.Claim.TheVariants.{NoHeight, LeastBins, BinsBetween, NoBins}
use Rattle.text_terms.specs.declared.claim.Claim.TheVariants.{GreatestValue, ValueBetween}
use Rattle.verdict_terms.specs.declared.reason.Reason.{Reason}
use Rattle.verdict_terms.specs.Reasons.{reason_words}
use Rattle.verdict_terms.specs.Documents.{verdict_line, reduced_verdict_line, bounded_verdict_line}
use Rattle.verdict_terms.specs.FrontDocumentVerdicts.{front_verdict_line}
use Rattle.verdict_terms.specs.declared.explained_reason.ExplainedReason.{ExplainedReason}
use Rattle.verdict_terms.specs.ExplainedDocuments.{explained_line, reason_words as explained_words_of}
use Rattle.answer_streams.specs.Audited.{explained_end, verified_front}
use Rattle.answer_streams.specs.Lines.{number_line, claim_text, reason_end}

-- a text of one number more, as a line of words has it
one_number : (front number : List ℕ) → front ++ (number ++ 10 ∷ []) ≡ (front ++ (number ++ [])) ++ 10 ∷ []
one_number front number =
    ap (λ z. front ++ (z ++ 10 ∷ [])) (sym (append-nil number)) ∙ sym (append_assoc front (number ++ []) (10 ∷ []))

two_numbers : (front first second : List ℕ)
    → front ++ (first ++ (32 ∷ (second ++ 10 ∷ []))) ≡ (front ++ (first ++ ((32 ∷ second) ++ []))) ++ 10 ∷ []
two_numbers front first second =
    ap (λ z. front ++ (first ++ (32 ∷ (z ++ 10 ∷ [])))) (sym (append-nil second))
    ∙ ap (λ z. front ++ z) (sym (append_assoc first (32 ∷ (second ++ [])) (10 ∷ [])))
    ∙ sym (append_assoc front (first ++ (32 ∷ (second ++ []))) (10 ∷ []))

-- the line of a claim
pub claim_line : (claim : Claim) → codes "verified " ++ claim_text claim ≡ verdict_line (Ok claim)
claim_line Fitting = refl
claim_line NotFitting = refl
claim_line (LeastHeight h) = one_number (codes "verified strip least ") (decimal h)
claim_line (HeightBetween a b) = two_numbers (codes "verified strip between ") (decimal a) (decimal b)
claim_line NoHeight = refl
claim_line (LeastBins k) = one_number (codes "verified bins least ") (decimal k)
claim_line (BinsBetween a b) = two_numbers (codes "verified bins between ") (decimal a) (decimal b)
claim_line NoBins = refl
claim_line (GreatestValue v) = one_number (codes "verified knapsack greatest ") (decimal v)
claim_line (ValueBetween a b) = two_numbers (codes "verified knapsack between ") (decimal a) (decimal b)

-- that of a reduced document
pub reduced_line : (claim : Claim) → codes "verified reduced " ++ claim_text claim ≡ reduced_verdict_line (Ok claim)
reduced_line Fitting = refl
reduced_line NotFitting = refl
reduced_line (LeastHeight h) = one_number (codes "verified reduced strip least ") (decimal h)
reduced_line (HeightBetween a b) = two_numbers (codes "verified reduced strip between ") (decimal a) (decimal b)
reduced_line NoHeight = refl
reduced_line (LeastBins k) = one_number (codes "verified reduced bins least ") (decimal k)
reduced_line (BinsBetween a b) = two_numbers (codes "verified reduced bins between ") (decimal a) (decimal b)
reduced_line NoBins = refl
reduced_line (GreatestValue v) = one_number (codes "verified reduced knapsack greatest ") (decimal v)
reduced_line (ValueBetween a b) = two_numbers (codes "verified reduced knapsack between ") (decimal a) (decimal b)

-- and of a bounded one
pub bounded_line : (claim : Claim) → codes "verified bounded " ++ claim_text claim ≡ bounded_verdict_line (Ok claim)
bounded_line Fitting = refl
bounded_line NotFitting = refl
bounded_line (LeastHeight h) = one_number (codes "verified bounded strip least ") (decimal h)
bounded_line (HeightBetween a b) = two_numbers (codes "verified bounded strip between ") (decimal a) (decimal b)
bounded_line NoHeight = refl
bounded_line (LeastBins k) = one_number (codes "verified bounded bins least ") (decimal k)
bounded_line (BinsBetween a b) = two_numbers (codes "verified bounded bins between ") (decimal a) (decimal b)
bounded_line NoBins = refl
bounded_line (GreatestValue v) = one_number (codes "verified bounded knapsack greatest ") (decimal v)
bounded_line (ValueBetween a b) = two_numbers (codes "verified bounded knapsack between ") (decimal a) (decimal b)

-- the line of a refusal
pub refusal_line : (line : ℕ) (reason : Reason)
    → (codes "refused " ++ decimal line) ++ reason_end reason
    ≡ verdict_line (Err (record { line = line; reason = reason }))
refusal_line line reason =
    sym (append_assoc (codes "refused " ++ decimal line) (flat_map (λ word. 32 ∷ word) (reason_words reason)) (10 ∷ []))
    ∙ ap (λ z. z ++ 10 ∷ []) (append_assoc (codes "refused ") (decimal line)
    (flat_map (λ word. 32 ∷ word) (reason_words reason)))

-- that of an explained document
pub explained_refusal_line : (line : ℕ) (reason : ExplainedReason)
    → (codes "refused " ++ decimal line) ++ explained_end reason
    ≡ explained_line (Err (record { line = line; reason = reason }))
explained_refusal_line line reason =
    sym (append_assoc (codes "refused " ++ decimal line)
    (flat_map (λ word. 32 ∷ word) (explained_words_of reason)) (10 ∷ []))
    ∙ ap (λ z. z ++ 10 ∷ []) (append_assoc (codes "refused ") (decimal line)
    (flat_map (λ word. 32 ∷ word) (explained_words_of reason)))

-- that of a document of a front that is verified
pub front_line : (complete : Bool) (points : ℕ) (instance : PlainInstance)
    → number_line (verified_front complete) points
    ≡ front_verdict_line (Ok (record
    { instance = instance; claim = record { complete = complete; points = points } }))
front_line true points instance = one_number (codes "verified front ") (decimal points)
front_line false points instance = one_number (codes "verified front partial ") (decimal points)
