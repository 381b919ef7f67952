-- What the answer of `front` says of the instance, and that its document is verified.
use Rattle.std.proofs.Common.{◌≡◌, ℕ, zero, suc, ◌+◌, ◌≤◌, arith, refl, sym, ap, ap₂}
use Rattle.std.proofs.Common.{subst, ◌∙◌, Bool, true, false, List, [], ◌∷◌, length, Option, String}
use Rattle.std.proofs.Common.{Global}
use Rattle.std.specs.Prelude.{◌↔◌}
use Rattle.std.specs.List.{AllByRecursion}
use Rattle.std.specs.Prelude.{◌==◌}
use Rattle.std.proofs.lemmas.Bool.{true≢false, ne_eqb}
use Rattle.packing_terms.specs.Packing.{PlainInstance, dims}
use Rattle.packing_terms.specs.Limits.{IsInstance, IsInternalInstance}
use Rattle.packing_terms.proofs.Internal.{written_internal}
use Rattle.text_terms.specs.declared.settings.Settings.{Settings}
use Rattle.verdict_terms.specs.Fronts.{IsLeastSize, IsFront, IsClaimed}
use Rattle.answer_terms.specs.Walks.{PlainCorner, PlainPoint, sizes, front_walk, size_answer}
use Rattle.answer_terms.proofs.Decided.{right_sizes, walks_are_fronts}
use Rattle.answer_terms.proofs.Spent.{spent_exactly, enough}
use Rattle.answer_terms.specs.FrontTexts.{front_status}
use Rattle.answer_terms.proofs.FrontBacked.{IsBackedCorner, IsBackedPoint, front_backed}
use Rattle.answer_terms.proofs.FrontOwn.{own_fronts_are_verified, own_fronts_are_fronts}
use Rattle.answer_streams.specs.Audited.{FrontVerdictOf, verdict_of_kind}
use Rattle.pack_streams.specs.Moves.{Appended}
use Rattle.pack_command.specs.Answered.{class_bound}
use Rattle.pack_command.specs.Asked.{IsFrontRun}
use Rattle.pack_command.specs.Fronts.{front_for, IsFrontWritten, AreAllPacked, AreAllRefuted}
use Rattle.pack_command.specs.Fronts.{IsFrontDecided, IsFrontOutputVerified}
use Rattle.pack_command.proofs.Written.{taken_all}
use Rattle.pack_command.proofs.OneJob.{front_settings}

-- where a point was found, the status of a complete front is 0
some_points : (n : ℕ) → front_status true (suc n) ≡ 0
some_points n = let other : (suc n == 0) ≡ false = ne_eqb (suc n) 0 (omega arith) in rw other refl

-- a status of 3 is that of a front that isn't complete, and 1 that of an empty one that is
three_partial : (complete : Bool) (points : ℕ) → (front_status complete points ≡ 3) ↔ (complete ≡ false)
three_partial false points = ((λ e. refl), (λ e. refl))
three_partial true zero = ((λ e. absurd (omega (arith, e))), (λ e. absurd (true≢false e)))
three_partial true (suc n) = (
  (λ e. let zero_is = some_points n in absurd (omega (arith, e, zero_is))),
  (λ e. absurd (true≢false e)),
)

one_empty : (instance : PlainInstance) (complete : Bool) (points : List PlainPoint)
    → IsClaimed instance complete (sizes points) → front_status complete (length points) ≡ 1
    → ((width height : ℕ) → ¬ IsLeastSize instance width height) × (complete ≡ true)
one_empty instance true [] claimed e = (
  (λ width height least. let found = claimed.complete width height least in let none = found.1 in
      omega (arith, none)),
  refl,
)
one_empty instance true (p ∷ points) claimed e = let zero_is = some_points (length points) in
    absurd (omega (arith, e, zero_is))
one_empty instance false points claimed e = absurd (omega (arith, e))

empty_one : (instance : PlainInstance) (complete : Bool) (points : List PlainPoint)
    → IsClaimed instance complete (sizes points)
    → ((width height : ℕ) → ¬ IsLeastSize instance width height) → complete ≡ true
    → front_status complete (length points) ≡ 1
empty_one instance true [] claimed none e = refl
empty_one instance true (p ∷ points) claimed none e = absurd (none p.width p.height claimed.least.0)
empty_one instance false points claimed none e = absurd (true≢false (sym e))

whole_front : (instance : PlainInstance) (complete : Bool) (points : List PlainPoint)
    → IsClaimed instance complete (sizes points)
    → ¬ (front_status complete (length points) ≡ 3) → IsFront instance (sizes points)
whole_front instance true points claimed other = claimed
whole_front instance false points claimed other = absurd (other refl)

not_false : (b : Bool) → ¬ (b ≡ false) → b ≡ true
not_false true n = refl
not_false false n = absurd (n refl)

module _ (instance : PlainInstance) where
  all_packed : (points : List PlainPoint) → AllByRecursion (IsBackedPoint instance) points
      → AreAllPacked instance points
  all_packed [] h = tt
  all_packed (p ∷ points) h = ((h.0).packs, all_packed points h.1)

  all_refuted : (corners : List PlainCorner) → AllByRecursion (IsBackedCorner instance) corners
      → AreAllRefuted instance corners
  all_refuted [] h = tt
  all_refuted (c ∷ corners) h = ((h.0).refutes, all_refuted corners h.1)

  module _ (settings : Settings) (limits : IsInstance instance) (plane : dims instance ≡ 2) where
    internal : IsInternalInstance instance
    internal = written_internal instance limits

    pub walk_packed : AreAllPacked instance (front_walk instance settings.budget settings.scales).points
    walk_packed =
        all_packed _ (front_backed instance internal plane (size_answer instance settings.budget settings.scales)
        (right_sizes instance internal plane settings.budget settings.scales)).1

    walk_refuted : AreAllRefuted instance (front_walk instance settings.budget settings.scales).corners
    walk_refuted =
        all_refuted _ (front_backed instance internal plane (size_answer instance settings.budget settings.scales)
        (right_sizes instance internal plane settings.budget settings.scales)).0

    walk_claimed : IsClaimed instance (front_walk instance settings.budget settings.scales).complete
        (sizes (front_walk instance settings.budget settings.scales).points)
    walk_claimed = walks_are_fronts instance settings.budget settings.scales internal plane

    module _ (sunk_old sunk_new : Option (List ℕ)) (status : ℕ) (is : status ≡ (front_for settings instance).status)
        (written : Appended sunk_old sunk_new (front_for settings instance).text) where
      pub front_decided : IsFrontDecided instance settings sunk_old sunk_new status
      front_decided =
          let three = three_partial (front_walk instance settings.budget settings.scales).complete
          (length (front_walk instance settings.budget settings.scales).points) in
          let past = spent_exactly instance settings.budget settings.scales in
          record {
            front = front_walk instance settings.budget settings.scales;
            whole = (λ other. whole_front instance _ _ walk_claimed (λ e. other (is ∙ e)));
            claimed = walk_claimed;
            packed = walk_packed;
            refuted = walk_refuted;
            spent = ((λ e. past.0 (three.0 (sym is ∙ e))), (λ large. is ∙ three.1 (past.1 large)));
            none = (
              (λ e. let o = one_empty instance _ _ walk_claimed (sym is ∙ e) in
                  (o.0, (λ large. true≢false (sym o.1 ∙ past.1 large)))),
              (λ h. is ∙ empty_one instance _ _ walk_claimed h.0 (not_false _ (λ e. h.1 (past.0 e)))),
            );
            status_is = is;
            written = written;
          }

      pub front_own : IsFrontOutputVerified instance sunk_old sunk_new status
      front_own = record {
        document = (front_for settings instance).text;
        written = written;
        claim = record {
          complete = (front_walk instance settings.budget settings.scales).complete;
          points = length (front_walk instance settings.budget settings.scales).points;
        };
        verified = ap (λ k. verdict_of_kind k (front_for settings instance).text)
            (own_fronts_are_fronts instance settings.budget settings.scales limits plane)
            ∙ ap FrontVerdictOf (own_fronts_are_verified instance settings.budget settings.scales limits plane);
        status_is = is;
      }

      pub front_whole : class_bound instance ≤ settings.budget + 1 → ¬ (status ≡ 3)
      front_whole bound e =
          true≢false (sym (enough instance settings.budget settings.scales internal plane bound)
          ∙ (three_partial (front_walk instance settings.budget settings.scales).complete
          (length (front_walk instance settings.budget settings.scales).points)).0 (sym is ∙ e))

-- ---- of the instance that the source holds

module _ (words : List (String Global)) (old new sunk_old sunk_new : Option (List ℕ)) (status : ℕ) (settings : Settings)
    (instance : PlainInstance)
    (s : IsFrontRun words old settings instance) (w : IsFrontWritten words old new sunk_old sunk_new status) where
  same_instance : w.instance ≡ instance
  same_instance =
      let a = w.answered in
      let same : a.bytes ≡ s.bytes = taken_all old new a.bytes s.bytes s.stated a.input.taken a.input.ended in
      let one = a.read in
      let two = s.read in
      cc (same, one, two)

  same_front : front_for w.settings w.instance ≡ front_for settings instance
  same_front = ap₂ (λ (t : Settings) (i : PlainInstance). front_for t i)
      (front_settings words w.settings settings (w.answered).asked s.asks) same_instance

  told_limits : IsInstance instance
  told_limits = subst IsInstance same_instance (w.answered).limits

  pub told_front : (status ≡ (front_for settings instance).status)
      × Appended sunk_old sunk_new (front_for settings instance).text
  told_front = (
    w.status_is ∙ ap (λ a. a.status) same_front,
    subst (λ a. Appended sunk_old sunk_new a.text) same_front w.written,
  )

  pub told_decided : IsFrontDecided instance settings sunk_old sunk_new status
  told_decided = front_decided instance settings told_limits s.plane sunk_old sunk_new status told_front.0 told_front.1

  pub told_own : IsFrontOutputVerified instance sunk_old sunk_new status
  told_own = front_own instance settings told_limits s.plane sunk_old sunk_new status told_front.0 told_front.1

  pub told_whole : class_bound instance ≤ settings.budget + 1 → ¬ (status ≡ 3)
  told_whole = front_whole instance settings told_limits s.plane sunk_old sunk_new status told_front.0 told_front.1
