-- What `strip` with families promises.
use Rattle.std.specs.Prelude.{ℕ, pred, ◌<◌, ◌≤◌, ◌≡◌, ◌⊎◌, Bool, true, false, List, []}
use Rattle.std.specs.declared.option.Option.{Option}
use Rattle.packing_terms.specs.Packing.{PlainInstance, IsPacking, Fits}
use Rattle.packing_terms.specs.Goals.{with_last_side, IsLeastHeight}
use Rattle.packing_terms.specs.TooLarge.{IsFirstTooWide}
use Rattle.text_terms.specs.declared.settings.Settings.{Settings}
use Rattle.text_terms.specs.Claims.{IsHeightBetween}
use Rattle.verdict_terms.specs.FamilyRefutation.{FamilyToken, Free, RefutesFamilies}
use Rattle.answer_terms.specs.HeightAnswers.{BoundedStrip, Heights, NoneFits, IsBoundedStrip, strip_status, bounded_strip_text}
use Rattle.bounded_answers.specs.Heights.{IsOpenWithout, IsOpenOnlyPast}
use Rattle.proposed_answers.specs.Shares.{level_share}
use Rattle.proposed_answers.specs.Heights.{height_count}
use Rattle.pack_streams.specs.Moves.{Appended}

-- The status and the document are those of an answer: a refuted and a placed height with both certificates,
-- which have others between only where the run without families ends open, or a box that is too wide.
pub record IsBoundedStripFound (proposals : Bool) (settings : Settings) (instance : PlainInstance) (status : ℕ)
    (document : List ℕ) : Type 0 where
  pub strip : BoundedStrip
  pub is : IsBoundedStrip instance strip
  pub past : IsOpenOnlyPast proposals instance settings strip
  pub status_is : status ≡ strip_status strip
  pub document_is : document ≡ bounded_strip_text instance strip

-- the least height over all packings, with coordinates of a packing in it, and tokens that refute the height
-- below
pub record IsBoundedLeast (instance : PlainInstance) (sunk_old sunk_new : Option (List ℕ)) (status : ℕ) : Type 0 where
  pub status_is : status ≡ 0
  pub height : ℕ
  pub least : IsLeastHeight instance height
  pub places : List ℕ
  pub packing : IsPacking (with_last_side instance height) places
  pub tokens : List FamilyToken
  pub refutation : RefutesFamilies (with_last_side instance (pred height)) (Free []) tokens
  pub written : Appended sunk_old sunk_new (bounded_strip_text instance (Heights
      (record { refuted = pred height; tokens = tokens; placed = height; places = places })))

-- Two heights between which the least one lies: a refuted one and a placed one, with both certificates. The run
-- without families ends open, and the two lie within its heights.
pub record AreBoundedBetween (proposals : Bool) (instance : PlainInstance) (settings : Settings)
    (sunk_old sunk_new : Option (List ℕ)) (status : ℕ) : Type 0 where
  pub status_is : status ≡ 3
  pub refuted : ℕ
  pub placed : ℕ
  pub order : refuted < placed
  pub between : IsHeightBetween instance refuted placed
  pub places : List ℕ
  pub packing : IsPacking (with_last_side instance placed) places
  pub tokens : List FamilyToken
  pub refutation : RefutesFamilies (with_last_side instance refuted) (Free []) tokens
  pub past : IsOpenWithout proposals instance settings refuted placed
  pub written : Appended sunk_old sunk_new (bounded_strip_text instance (Heights
      (record { refuted = refuted; tokens = tokens; placed = placed; places = places })))

-- the boxes fit at no height: the first box that is too wide, with its first such dimension
pub record HasNoBoundedStrip (instance : PlainInstance) (sunk_old sunk_new : Option (List ℕ)) (status : ℕ) : Type 0 where
  pub status_is : status ≡ 1
  pub none : (height : ℕ) → ¬ Fits (with_last_side instance height)
  pub box : ℕ
  pub dim : ℕ
  pub wide : IsFirstTooWide instance box dim
  pub written : Appended sunk_old sunk_new (bounded_strip_text instance (NoneFits box dim))

-- one of the three
abbrev pub AreHeightsDecided : Bool → PlainInstance → Settings → (sunk_old sunk_new : Option (List ℕ)) → ℕ → Type 0
AreHeightsDecided proposals instance settings sunk_old sunk_new status =
    IsBoundedLeast instance sunk_old sunk_new status
    ⊎ (AreBoundedBetween proposals instance settings sunk_old sunk_new status
    ⊎ HasNoBoundedStrip instance sunk_old sunk_new status)

-- The budget is enough for the trees of the run without families: its whole for the class tree of each height,
-- or behind proposals its share.
abbrev pub AreHeightsAmple : Bool → Settings → PlainInstance → Type 0
AreHeightsAmple false settings instance = (h : ℕ) → height_count instance settings.scales h ≤ settings.budget
AreHeightsAmple true settings instance = (h : ℕ) → height_count instance settings.scales h ≤ level_share settings.budget
