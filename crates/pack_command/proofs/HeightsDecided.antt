-- What the answer of `strip` with families says.
use Rattle.std.proofs.Common.{◌≡◌, ℕ, suc, pred, ◌<◌, ◌≤◌, ◌⊎◌, inl, inr, refl, sym, ap, subst, ◌∙◌, arith, Bool, true}
use Rattle.std.proofs.Common.{false, List, [], String, Global}
use Rattle.std.specs.declared.option.Option.{Option}
use Rattle.std.proofs.lemmas.Bool.{cases_lt}
use Rattle.packing_terms.specs.Packing.{PlainInstance}
use Rattle.packing_terms.specs.Goals.{with_last_side}
use Rattle.packing_terms.specs.Limits.{IsInstance}
use Rattle.packing_terms.specs.TooLarge.{IsFirstTooWide}
use Rattle.text_terms.specs.declared.settings.Settings.{Settings}
use Rattle.verdict_terms.specs.FamilyRefutation.{Free, RefutesFamilies}
use Rattle.answer_terms.specs.Answers.{claim_status}
use Rattle.answer_terms.specs.HeightAnswers.{BoundedHeights, BoundedStrip, Heights, NoneFits, AreBoundedHeights}
use Rattle.answer_terms.specs.HeightAnswers.{IsBoundedStrip, strip_claim, strip_status, bounded_strip_text}
use Rattle.answer_terms.proofs.HeightTrue.{bounded_strips_true, bounded_heights_told}
use Rattle.answer_terms.proofs.HeightOwn.{own_bounded_strips_verified}
use Rattle.answer_streams.specs.Audited.{verdict_of_kind, BoundedVerdictOf}
use Rattle.bounded_answers.specs.Heights.{IsOpenOnlyPast}
use Rattle.pack_streams.specs.Moves.{Appended}
use Rattle.pack_command.specs.Asked.{HeightBounds, IsProposalRun}
use Rattle.pack_command.specs.Bounded.{IsOwnBounded}
use Rattle.pack_command.specs.BoundedHeights.{IsBoundedStripFound, AreHeightsDecided, AreHeightsAmple}
use Rattle.pack_command.specs.Proposed.{IsProposedWritten}
use Rattle.pack_command.proofs.ProposedDecided.{told_limits, told_found}

-- ---- of an answer

module _ (proposals : Bool) (settings : Settings) (instance : PlainInstance) (limits : IsInstance instance)
    (old new : Option (List ℕ)) (status : ℕ) where
  abbrev Decided : Type 0
  Decided = AreHeightsDecided proposals instance settings old new status

  module _ (heights : BoundedHeights) (are : AreBoundedHeights instance heights)
      (past : IsOpenOnlyPast proposals instance settings (Heights heights))
      (status_is : status ≡ strip_status (Heights heights))
      (written : Appended old new (bounded_strip_text instance (Heights heights))) where
    least_by : suc heights.refuted ≡ heights.placed → Decided
    least_by same =
        let below : heights.refuted ≡ pred heights.placed = ap pred same in
        inl (record {
          status_is = status_is ∙ ap claim_status ((bounded_heights_told heights).0 same);
          height = heights.placed;
          least = (bounded_strips_true.0 instance heights limits are).0 same;
          places = heights.places;
          packing = are.packing;
          tokens = heights.tokens;
          refutation = subst (λ (h : ℕ). RefutesFamilies (with_last_side instance h) (Free []) heights.tokens) below
              are.refutation;
          written = subst (λ (h : ℕ). Appended old new (bounded_strip_text instance (Heights
              (record { refuted = h; tokens = heights.tokens; placed = heights.placed; places = heights.places }))))
              below written;
        })

    between_by : suc heights.refuted < heights.placed → Decided
    between_by gap = inr (inl (record {
      status_is = status_is
          ∙ ap claim_status ((bounded_heights_told heights).1 (λ same. absurd (omega (arith, gap, same))));
      refuted = heights.refuted;
      placed = heights.placed;
      order = are.rising;
      between = (bounded_strips_true.0 instance heights limits are).1;
      places = heights.places;
      packing = are.packing;
      tokens = heights.tokens;
      refutation = are.refutation;
      past = past gap;
      written = written;
    }))

    heights_by : Decided
    heights_by = go (cases_lt (suc heights.refuted) heights.placed)
      where
        go : (suc heights.refuted < heights.placed) ⊎ (heights.placed ≤ suc heights.refuted) → Decided
        go (inl gap) = between_by gap
        go (inr closed) = let rising = are.rising in least_by (omega (arith, closed, rising))

  none_by : (v i : ℕ) → IsFirstTooWide instance v i → status ≡ strip_status (NoneFits v i)
      → Appended old new (bounded_strip_text instance (NoneFits v i)) → Decided
  none_by v i wide status_is written = inr (inr (record {
    status_is = status_is;
    none = bounded_strips_true.1 instance v i limits wide;
    box = v;
    dim = i;
    wide = wide;
    written = written;
  }))

  strip_by : (strip : BoundedStrip) → IsBoundedStrip instance strip → IsOpenOnlyPast proposals instance settings strip
      → status ≡ strip_status strip → Appended old new (bounded_strip_text instance strip) → Decided
  strip_by (Heights heights) is past status_is written = heights_by heights is past status_is written
  strip_by (NoneFits v i) is past status_is written = none_by v i is status_is written

  module _ (document : List ℕ) (found : IsBoundedStripFound proposals settings instance status document)
      (gains : Appended old new document) where
    abbrev answer : BoundedStrip
    answer = found.strip

    written : Appended old new (bounded_strip_text instance answer)
    written = subst (λ (text : List ℕ). Appended old new text) found.document_is gains

    decided_by : Decided
    decided_by = strip_by answer found.is found.past found.status_is written

    own_by : IsOwnBounded instance old new status
    own_by =
        let own = own_bounded_strips_verified instance answer limits found.is in
        record {
          document = bounded_strip_text instance answer;
          written = written;
          claim = strip_claim answer;
          is = own;
          audited = ap (λ kind. verdict_of_kind kind (bounded_strip_text instance answer)) own.kind
              ∙ ap BoundedVerdictOf own.verified;
          status_is = found.status_is;
        }

-- it isn't two heights where the tree of no height is past the budget, or its share
within_by : (proposals : Bool) (settings : Settings) (instance : PlainInstance) (old new : Option (List ℕ)) (status : ℕ)
    → AreHeightsDecided proposals instance settings old new status
    → AreHeightsAmple proposals settings instance → ¬ (status ≡ 3)
within_by proposals settings instance old new status (inl least) ample three =
    let zero = least.status_is in omega (arith, zero, three)
within_by false settings instance old new status (inr (inl between)) ample three =
    let spent = (between.past).spent in
    let past = spent.2 in
    let few = ample spent.0 in
    omega (arith, past, few)
within_by true settings instance old new status (inr (inl between)) ample three =
    let past = (between.past).past_above in
    let few = ample (suc (between.past).low) in
    omega (arith, past, few)
within_by proposals settings instance old new status (inr (inr none)) ample three =
    let one = none.status_is in omega (arith, one, three)

-- ---- of the instance that the source holds

module _ (words : List (String Global)) (old new sunk_old sunk_new : Option (List ℕ)) (status : ℕ) (proposals : Bool)
    (settings : Settings) (instance : PlainInstance)
    (s : IsProposalRun words old (HeightBounds proposals) settings instance)
    (w : IsProposedWritten words old new sunk_old sunk_new status) where
  limits : IsInstance instance
  limits = told_limits words old new sunk_old sunk_new status (HeightBounds proposals) settings instance s w

  found : IsBoundedStripFound proposals settings instance status w.document
  found = told_found words old new sunk_old sunk_new status (HeightBounds proposals) settings instance s w

  pub heights_decided : AreHeightsDecided proposals instance settings sunk_old sunk_new status
  heights_decided = decided_by proposals settings instance limits sunk_old sunk_new status w.document found w.written

  pub heights_own : IsOwnBounded instance sunk_old sunk_new status
  heights_own = own_by proposals settings instance limits sunk_old sunk_new status w.document found w.written

  pub heights_within : AreHeightsAmple proposals settings instance → ¬ (status ≡ 3)
  heights_within = within_by proposals settings instance sunk_old sunk_new status heights_decided
