-- The document of an answer is a bounded document of its claim, so it is verified, and the claim is true.
use Rattle.std.proofs.Common.{◌≡◌, ℕ, suc, ◌<◌, ◌≤◌, refl, sym, subst, arith, Bool, true, false, cond, List, [], ◌∷◌}
use Rattle.std.proofs.Common.{codes}
use Rattle.std.specs.Prelude.{◌==◌}
use Rattle.std.specs.Fmt.{decimal}
use Rattle.std.proofs.lemmas.Bool.{eqb-true, eqb-false}
use Rattle.packing_terms.specs.Packing.{PlainInstance, dims}
use Rattle.packing_terms.specs.Limits.{IsInstance}
use Rattle.packing_terms.specs.Goals.{IsGreatestValue}
use Rattle.packing_terms.proofs.Internal.{written_internal}
use Rattle.text_terms.specs.Spelling.{instance_words, lines_text}
use Rattle.text_terms.proofs.Spelled.{AreWords, number_decimal}
use Rattle.tree_terms.specs.OuterSearch.{AreTakenNumbers}
use Rattle.text_terms.specs.declared.claim.SolvingJob.TheVariants.{Knapsack}
use Rattle.text_terms.specs.declared.claim.Claim.{Claim}
use Rattle.text_terms.specs.declared.claim.Claim.TheVariants.{GreatestValue, ValueBetween}
use Rattle.text_terms.specs.Claims.{job_of, result_words, max_worth, IsTrueOf, IsValueBetween}
use Rattle.verdict_terms.specs.BoundedRefutation.{BoundedToken, IsBoundedRefutation}
use Rattle.verdict_terms.specs.declared.heading.Heading.TheVariants.{Bounded}
use Rattle.verdict_terms.specs.Form.{IsResult, BacksUnder, MayName, AreProved, AreTaken, AreBounding}
use Rattle.verdict_terms.proofs.FormGiven.{documents_have_form}
use Rattle.verdict_terms.proofs.True.{documents_are_true}
use Rattle.verdict_terms.proofs.KindOf.{bounded_documents}
use Rattle.answer_terms.specs.Answers.{Lines, document_lines, take_lines}
use Rattle.answer_terms.proofs.Filled.{AreFilled, filled_append, clean_text, filled_text, instance_form}
use Rattle.answer_terms.proofs.OwnWritten.{IsBounded, internal_bounded}
use Rattle.answer_terms.proofs.Numbered.{taken_filled, taken_taken}
use Rattle.answer_terms.proofs.OwnAccepted.{filled_document, IsHeadedAbout, decimal_number, number_plain, numbers_plain}
use Rattle.answer_terms.specs.BoundedAnswers.{BoundedAnswer, IsBoundedAnswer, HaveParameters, value_claim, bounded_claim}
use Rattle.answer_terms.specs.BoundedAnswers.{bounded_token_lines, bounded_backing, bounded_text}
use Rattle.answer_terms.specs.BoundedLaws.{OwnBoundedDocumentsAreVerified, BoundedAnswersAreTrue, BoundedClaimsAreTold}
use Rattle.answer_terms.proofs.BoundedWritten.{HaveBoundedLines, bounded_filled, bounded_are_lines, bounded_written}

-- ---- whole documents

-- the result line says the claim, and the lines between it and `end` back it
record IsBacked (instance : PlainInstance) (claim : Claim) (numbers : List ℕ) (tokens : List BoundedToken)
    : Type 0 where
  headed : MayName Bounded (job_of claim)
  words : AreWords (result_words claim)
  result : IsResult instance claim (result_words claim)
  filled : AreFilled (bounded_backing instance numbers tokens)
  backs : BacksUnder Bounded instance claim (bounded_backing instance numbers tokens)

-- the document of a claim
abbrev claim_lines : PlainInstance → Claim → List ℕ → List BoundedToken → Lines
claim_lines instance claim numbers tokens =
    document_lines (codes "bounded") instance (job_of claim) (result_words claim)
    (bounded_backing instance numbers tokens)

backed_document : (instance : PlainInstance) (claim : Claim) (numbers : List ℕ) (tokens : List BoundedToken)
    → IsInstance instance → IsBacked instance claim numbers tokens
    → IsHeadedAbout Bounded instance (lines_text (claim_lines instance claim numbers tokens)) claim
backed_document instance claim numbers tokens limits backed =
    let filled : AreFilled (claim_lines instance claim numbers tokens) =
    filled_document Bounded instance (job_of claim) (result_words claim) (bounded_backing instance numbers tokens)
    limits backed.words backed.filled in
    record {
      document = record {
        instance = instance;
        written = instance_words instance;
        result = result_words claim;
        backing = bounded_backing instance numbers tokens;
        headed = backed.headed;
        clean = clean_text (claim_lines instance claim numbers tokens) filled;
        are = filled_text (claim_lines instance claim numbers tokens) filled;
        is_instance = instance_form instance limits;
        is_result = backed.result;
        backed = backed.backs;
      };
      about = refl;
    }

-- ---- values

-- the numbers reach value `a`, and the tokens refute value `b`
record ShowsValues (instance : PlainInstance) (a b : ℕ) (numbers : List ℕ) (tokens : List BoundedToken) : Type 0 where
  rising : a < b
  most : b ≤ max_worth
  packing : AreTakenNumbers instance a numbers
  refutation : IsBoundedRefutation instance b tokens
  parameters : HaveParameters tokens

record AreValues (instance : PlainInstance) (a b : ℕ) (numbers : List ℕ) (tokens : List BoundedToken) : Type 0 where
  filled : AreFilled (bounded_backing instance numbers tokens)
  backs : AreProved (AreTaken instance a) (AreBounding instance b) (bounded_backing instance numbers tokens)

values_backed : (instance : PlainInstance) (a b : ℕ) (numbers : List ℕ) (tokens : List BoundedToken)
    → IsInstance instance → ShowsValues instance a b numbers tokens → AreValues instance a b numbers tokens
values_backed instance a b numbers tokens limits shown =
    let bounded : IsBounded instance = internal_bounded instance (written_internal instance limits) in
    let written : HaveBoundedLines (dims instance) tokens =
    bounded_written instance bounded limits.boxes.count.1 b tokens shown.refutation shown.parameters in
    let d = limits.dimensions.0 in
    let back : AreFilled ((codes "proof" ∷ []) ∷ bounded_token_lines tokens) =
    ((omega arith, refl, tt), refl, bounded_filled (dims instance) tokens written) in
    record {
      filled = filled_append (take_lines instance numbers) ((codes "proof" ∷ []) ∷ bounded_token_lines tokens)
          (taken_filled instance a numbers bounded shown.packing) back;
      backs = record {
        front = take_lines instance numbers;
        back = bounded_token_lines tokens;
        are = refl;
        is_front = taken_taken instance a numbers (omega (arith, d)) bounded shown.packing;
        is_back = record {
          tokens = tokens;
          are_lines = bounded_are_lines (dims instance) tokens written;
          refute = shown.refutation;
        };
      };
    }

greatest_backed : (instance : PlainInstance) (v : ℕ) (numbers : List ℕ) (tokens : List BoundedToken)
    → IsInstance instance → ShowsValues instance v (suc v) numbers tokens
    → IsBacked instance (GreatestValue v) numbers tokens
greatest_backed instance v numbers tokens limits shown =
    let values = values_backed instance v (suc v) numbers tokens limits shown in
    let m = shown.most in
    record {
      headed = tt;
      words = (omega arith, refl, number_plain v (omega (arith, m)));
      result = record {
        number = decimal v;
        are = refl;
        is_number = decimal_number 0 max_worth v (omega arith) (omega (arith, m)) (omega arith);
      };
      filled = values.filled;
      backs = values.backs;
    }

between_backed : (instance : PlainInstance) (a b : ℕ) (numbers : List ℕ) (tokens : List BoundedToken)
    → IsInstance instance → ShowsValues instance a b numbers tokens
    → IsBacked instance (ValueBetween a b) numbers tokens
between_backed instance a b numbers tokens limits shown =
    let values = values_backed instance a b numbers tokens limits shown in
    let m = shown.most in
    let r = shown.rising in
    record {
      headed = tt;
      words = (omega arith, refl, numbers_plain a b (omega (arith, m, r)) (omega (arith, m)));
      result = record {
        first = decimal a;
        second = decimal b;
        are = refl;
        is_first = number_decimal a (omega (arith, m, r));
        is_second = number_decimal b (omega (arith, m));
        rising = r;
        most = m;
      };
      filled = values.filled;
      backs = values.backs;
    }

-- ---- answers

module _ (instance : PlainInstance) (limits : IsInstance instance) (answer : BoundedAnswer)
    (is : IsBoundedAnswer instance answer) where
  shown : ShowsValues instance answer.placed answer.refuted answer.numbers answer.tokens
  shown = record {
    rising = is.rising;
    most = is.most;
    packing = is.packing;
    refutation = is.refutation;
    parameters = is.parameters;
  }

  next_shown : suc answer.placed ≡ answer.refuted
      → ShowsValues instance answer.placed (suc answer.placed) answer.numbers answer.tokens
  next_shown e =
      subst (λ b. ShowsValues instance answer.placed b answer.numbers answer.tokens) (sym e) shown

  between_document : IsHeadedAbout Bounded instance
      (lines_text (claim_lines instance (ValueBetween answer.placed answer.refuted) answer.numbers answer.tokens))
      (ValueBetween answer.placed answer.refuted)
  between_document =
      backed_document instance (ValueBetween answer.placed answer.refuted) answer.numbers answer.tokens limits
      (between_backed instance answer.placed answer.refuted answer.numbers answer.tokens limits shown)

  greatest_document : suc answer.placed ≡ answer.refuted → IsHeadedAbout Bounded instance
      (lines_text (claim_lines instance (GreatestValue answer.placed) answer.numbers answer.tokens))
      (GreatestValue answer.placed)
  greatest_document e =
      backed_document instance (GreatestValue answer.placed) answer.numbers answer.tokens limits
      (greatest_backed instance answer.placed answer.numbers answer.tokens limits (next_shown e))

  -- the document says greatest where the values are neighbours, else between
  own_document : IsHeadedAbout Bounded instance (bounded_text instance answer) (bounded_claim answer)
  unfolding bounded_text value_claim
  own_document = go (suc answer.placed == answer.refuted) refl
    where
      go : (b : Bool) → (suc answer.placed == answer.refuted) ≡ b → IsHeadedAbout Bounded instance
          (lines_text (document_lines (codes "bounded") instance Knapsack
          (result_words (cond b (GreatestValue answer.placed) (ValueBetween answer.placed answer.refuted)))
          (bounded_backing instance answer.numbers answer.tokens)))
          (cond b (GreatestValue answer.placed) (ValueBetween answer.placed answer.refuted))
      go true e = greatest_document (eqb-true (suc answer.placed) answer.refuted e)
      go false e = between_document

  -- the claim of a document about the instance is true of it
  true_about : (text : List ℕ) (claim : Claim) → IsHeadedAbout Bounded instance text claim → IsTrueOf instance claim
  true_about text claim own =
      subst (λ about. IsTrueOf about claim) own.about (documents_are_true Bounded text claim own.document)

  is_greatest : suc answer.placed ≡ answer.refuted → IsGreatestValue instance answer.placed
  is_greatest e = true_about _ (GreatestValue answer.placed) (greatest_document e)

  is_between : IsValueBetween instance answer.placed answer.refuted
  is_between = true_about _ (ValueBetween answer.placed answer.refuted) between_document

pub own_bounded_verified : OwnBoundedDocumentsAreVerified
own_bounded_verified instance answer limits is =
    let own = own_document instance limits answer is in
    let verified = (documents_have_form Bounded (bounded_text instance answer) (bounded_claim answer)).1 own.document in
    record {
      document = own.document;
      about = own.about;
      kind = bounded_documents (bounded_text instance answer) (bounded_claim answer) verified;
      verified = verified;
    }

pub bounded_answers_true : BoundedAnswersAreTrue
bounded_answers_true instance answer limits is =
    (is_greatest instance limits answer is, is_between instance limits answer is)

pub bounded_claims_told : BoundedClaimsAreTold
unfolding value_claim
bounded_claims_told answer = go (suc answer.placed == answer.refuted) refl
  where
    go : (b : Bool) → (suc answer.placed == answer.refuted) ≡ b
        → (suc answer.placed ≡ answer.refuted
        → cond b (GreatestValue answer.placed) (ValueBetween answer.placed answer.refuted) ≡ GreatestValue answer.placed)
        × (¬ (suc answer.placed ≡ answer.refuted)
        → cond b (GreatestValue answer.placed) (ValueBetween answer.placed answer.refuted)
        ≡ ValueBetween answer.placed answer.refuted)
    go true e = (λ s. refl, λ n. absurd (n (eqb-true (suc answer.placed) answer.refuted e)))
    go false e = (λ s. absurd (eqb-false (suc answer.placed) answer.refuted e s), λ n. refl)
