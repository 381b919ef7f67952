-- What `knapsack` with priced leaves promises.
use Rattle.std.specs.Prelude.{ℕ, suc, ◌<◌, ◌≤◌, ◌≡◌, ◌⊎◌, Bool, true, false, List, Ok}
use Rattle.std.specs.declared.option.Option.{Option}
use Rattle.packing_terms.specs.Packing.{PlainInstance}
use Rattle.packing_terms.specs.Goals.{IsGreatestValue}
use Rattle.text_terms.specs.declared.settings.Settings.{Settings}
use Rattle.tree_terms.specs.OuterSearch.{AreTakenNumbers}
use Rattle.text_terms.specs.Claims.{IsValueBetween}
use Rattle.text_terms.specs.declared.claim.Claim.{Claim}
use Rattle.answer_terms.specs.Answers.{claim_status}
use Rattle.verdict_terms.specs.BoundedRefutation.{BoundedToken, IsBoundedRefutation}
use Rattle.answer_terms.specs.BoundedAnswers.{BoundedAnswer, IsBoundedAnswer, bounded_status, bounded_text}
use Rattle.answer_terms.specs.BoundedLaws.{IsBoundedFor}
use Rattle.bounded_answers.specs.ValueLevels.{IsOpenWithout}
use Rattle.proposed_answers.specs.Shares.{level_share}
use Rattle.proposed_answers.specs.Values.{value_count}
use Rattle.answer_streams.specs.Audited.{audit_verdict, BoundedVerdictOf}
use Rattle.pack_streams.specs.Moves.{Appended}

-- The status and the document are those of an answer: a placed and a refuted value with both
-- certificates, which have others between only where the run without priced leaves ends open.
pub record IsBoundedFound (proposals : Bool) (settings : Settings) (instance : PlainInstance) (status : ℕ)
    (document : List ℕ) : Type 0 where
  pub answer : BoundedAnswer
  pub is : IsBoundedAnswer instance answer
  pub past : suc answer.placed < answer.refuted
      → IsOpenWithout proposals instance settings answer.placed answer.refuted
  pub status_is : status ≡ bounded_status answer
  pub document_is : document ≡ bounded_text instance answer

-- the greatest value over all sets of boxes that fit, with the taken boxes and their places, and tokens
-- that refute one more
pub record IsBoundedGreatest (instance : PlainInstance) (sunk_old sunk_new : Option (List ℕ)) (status : ℕ) :
    Type 0 where
  pub status_is : status ≡ 0
  pub value : ℕ
  pub greatest : IsGreatestValue instance value
  pub numbers : List ℕ
  pub packing : AreTakenNumbers instance value numbers
  pub tokens : List BoundedToken
  pub refutation : IsBoundedRefutation instance (suc value) tokens
  pub written : Appended sunk_old sunk_new (bounded_text instance
      (record { placed = value; numbers = numbers; refuted = suc value; tokens = tokens }))

-- Two values between which the greatest one lies: a placed one and a refuted one, with both
-- certificates. The run without priced leaves ends open, and the two lie within its values.
pub record AreBoundedValues (proposals : Bool) (instance : PlainInstance) (settings : Settings)
    (sunk_old sunk_new : Option (List ℕ)) (status : ℕ) : Type 0 where
  pub status_is : status ≡ 3
  pub placed : ℕ
  pub refuted : ℕ
  pub order : placed < refuted
  pub between : IsValueBetween instance placed refuted
  pub numbers : List ℕ
  pub packing : AreTakenNumbers instance placed numbers
  pub tokens : List BoundedToken
  pub refutation : IsBoundedRefutation instance refuted tokens
  pub past : IsOpenWithout proposals instance settings placed refuted
  pub written : Appended sunk_old sunk_new (bounded_text instance
      (record { placed = placed; numbers = numbers; refuted = refuted; tokens = tokens }))

-- one of the two
abbrev pub IsBoundedDecided : Bool → PlainInstance → Settings → (sunk_old sunk_new : Option (List ℕ)) → ℕ → Type 0
IsBoundedDecided proposals instance settings sunk_old sunk_new status =
    IsBoundedGreatest instance sunk_old sunk_new status
    ⊎ AreBoundedValues proposals instance settings sunk_old sunk_new status

-- The budget is enough for the trees of the run without priced leaves: its whole for the choice tree of
-- each value, or behind proposals its share.
abbrev pub IsBoundsAmple : Bool → Settings → PlainInstance → Type 0
IsBoundsAmple false settings instance = (t : ℕ) → value_count instance settings.scales t ≤ settings.budget
IsBoundsAmple true settings instance = (t : ℕ) → value_count instance settings.scales t ≤ level_share settings.budget

-- the document that was written is a bounded one by its first line, an audit verifies it with a claim
-- about this instance, and the claim has this status
pub record IsOwnBounded (instance : PlainInstance) (sunk_old sunk_new : Option (List ℕ)) (status : ℕ) : Type 0 where
  pub document : List ℕ
  pub written : Appended sunk_old sunk_new document
  pub claim : Claim
  pub is : IsBoundedFor instance document claim
  pub audited : audit_verdict document ≡ BoundedVerdictOf (Ok claim)
  pub status_is : status ≡ claim_status claim
