-- What the answer of `knapsack` with priced leaves says.
use Rattle.std.proofs.Common.{◌≡◌, ℕ, suc, ◌<◌, ◌≤◌, ◌⊎◌, inl, inr, sym, ap, subst, ◌∙◌, arith, Bool, true, false}
use Rattle.std.proofs.Common.{List, String, Global}
use Rattle.std.specs.declared.option.Option.{Option}
use Rattle.std.proofs.lemmas.Bool.{cases_lt}
use Rattle.packing_terms.specs.Packing.{PlainInstance}
use Rattle.packing_terms.specs.Limits.{IsInstance}
use Rattle.text_terms.specs.declared.settings.Settings.{Settings}
use Rattle.answer_terms.specs.Answers.{claim_status}
use Rattle.answer_streams.specs.Audited.{verdict_of_kind, BoundedVerdictOf}
use Rattle.verdict_terms.specs.BoundedRefutation.{IsBoundedRefutation}
use Rattle.answer_terms.specs.BoundedAnswers.{BoundedAnswer, bounded_claim, bounded_text}
use Rattle.answer_terms.proofs.BoundedOwn.{own_bounded_verified, bounded_answers_true, bounded_claims_told}
use Rattle.pack_streams.specs.Moves.{Appended}
use Rattle.pack_command.specs.Asked.{ValueBounds, IsProposalRun}
use Rattle.pack_command.specs.Bounded.{IsBoundedFound, IsBoundedDecided, IsBoundsAmple, IsOwnBounded}
use Rattle.pack_command.specs.Proposed.{IsProposedWritten}
use Rattle.pack_command.proofs.ProposedDecided.{told_limits, told_found}

-- ---- of an answer

module _ (proposals : Bool) (settings : Settings) (instance : PlainInstance) (limits : IsInstance instance)
    (old new : Option (List ℕ)) (status : ℕ) (document : List ℕ)
    (found : IsBoundedFound proposals settings instance status document) (gains : Appended old new document) where
  abbrev answer : BoundedAnswer
  answer = found.answer

  written : Appended old new (bounded_text instance answer)
  written = subst (λ (text : List ℕ). Appended old new text) found.document_is gains

  greatest_by : suc answer.placed ≡ answer.refuted
      → IsBoundedDecided proposals instance settings old new status
  greatest_by same = inl (record {
    status_is = found.status_is ∙ ap claim_status ((bounded_claims_told answer).0 same);
    value = answer.placed;
    greatest = (bounded_answers_true instance answer limits found.is).0 same;
    numbers = answer.numbers;
    packing = (found.is).packing;
    tokens = answer.tokens;
    refutation = subst (λ (b : ℕ). IsBoundedRefutation instance b answer.tokens) (sym same) (found.is).refutation;
    written = subst (λ (b : ℕ). Appended old new (bounded_text instance
        (record { placed = answer.placed; numbers = answer.numbers; refuted = b; tokens = answer.tokens })))
        (sym same) written;
  })

  between_by : suc answer.placed < answer.refuted → IsBoundedDecided proposals instance settings old new status
  between_by gap = inr (record {
    status_is = found.status_is
        ∙ ap claim_status ((bounded_claims_told answer).1 (λ same. absurd (omega (arith, gap, same))));
    placed = answer.placed;
    refuted = answer.refuted;
    order = (found.is).rising;
    between = (bounded_answers_true instance answer limits found.is).1;
    numbers = answer.numbers;
    packing = (found.is).packing;
    tokens = answer.tokens;
    refutation = (found.is).refutation;
    past = found.past gap;
    written = written;
  })

  decided_by : IsBoundedDecided proposals instance settings old new status
  decided_by = go (cases_lt (suc answer.placed) answer.refuted)
    where
      go : (suc answer.placed < answer.refuted) ⊎ (answer.refuted ≤ suc answer.placed)
          → IsBoundedDecided proposals instance settings old new status
      go (inl gap) = between_by gap
      go (inr closed) = let rising = (found.is).rising in greatest_by (omega (arith, closed, rising))

  own_by : IsOwnBounded instance old new status
  own_by =
      let own = own_bounded_verified instance answer limits found.is in
      record {
        document = bounded_text instance answer;
        written = written;
        claim = bounded_claim answer;
        is = own;
        audited = ap (λ kind. verdict_of_kind kind (bounded_text instance answer)) own.kind
            ∙ ap BoundedVerdictOf own.verified;
        status_is = found.status_is;
      }

-- it isn't two values where the tree of no value is past the budget, or its share
within_by : (proposals : Bool) (settings : Settings) (instance : PlainInstance) (old new : Option (List ℕ)) (status : ℕ)
    → IsBoundedDecided proposals instance settings old new status
    → IsBoundsAmple proposals settings instance → ¬ (status ≡ 3)
within_by proposals settings instance old new status (inl greatest) ample three =
    let zero = greatest.status_is in omega (arith, zero, three)
within_by false settings instance old new status (inr between) ample three =
    let spent = (between.past).spent in
    let past = spent.2 in
    let few = ample spent.0 in
    omega (arith, past, few)
within_by true settings instance old new status (inr between) ample three =
    let past = (between.past).past_above in
    let few = ample (suc (between.past).low) in
    omega (arith, past, few)

-- ---- of the instance that the source holds

module _ (words : List (String Global)) (old new sunk_old sunk_new : Option (List ℕ)) (status : ℕ) (proposals : Bool)
    (settings : Settings) (instance : PlainInstance)
    (s : IsProposalRun words old (ValueBounds proposals) settings instance)
    (w : IsProposedWritten words old new sunk_old sunk_new status) where
  limits : IsInstance instance
  limits = told_limits words old new sunk_old sunk_new status (ValueBounds proposals) settings instance s w

  found : IsBoundedFound proposals settings instance status w.document
  found = told_found words old new sunk_old sunk_new status (ValueBounds proposals) settings instance s w

  pub bounded_decided : IsBoundedDecided proposals instance settings sunk_old sunk_new status
  bounded_decided = decided_by proposals settings instance limits sunk_old sunk_new status w.document found w.written

  pub bounded_own : IsOwnBounded instance sunk_old sunk_new status
  bounded_own = own_by proposals settings instance limits sunk_old sunk_new status w.document found w.written

  pub bounded_within : IsBoundsAmple proposals settings instance → ¬ (status ≡ 3)
  bounded_within = within_by proposals settings instance sunk_old sunk_new status bounded_decided
