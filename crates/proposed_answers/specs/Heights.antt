-- Bounds of the least height, and what is answered for a strip by proposals first.
use Rattle.std.specs.Prelude.{ℕ, suc, pred, ◌<◌, ◌≤◌, ◌≡◌, Bool, List, []}
use Rattle.packing_terms.specs.Packing.{PlainInstance, IsPacking}
use Rattle.packing_terms.specs.Goals.{with_last_side, HasTooWideBox}
use Rattle.packing_terms.specs.Limits.{max_height}
use Rattle.packing_terms.specs.Refutation.{Refutes}
use Rattle.packing_terms.specs.TooLarge.{IsFirstTooWide}
use Rattle.packing_terms.specs.Tokens.{PlainToken}
use Rattle.tree_terms.specs.Levels.{PlainLevel}
use Rattle.text_terms.specs.declared.settings.Settings.{Settings}
use Rattle.level_search.specs.Bounds.{PlainBounds, IsRightAnswer, AreBounds}
use Rattle.strip_solver.specs.declared.strip.Strip.{Strip}
use Rattle.strip_solver.specs.declared.strip.Strip.TheVariants.{Least, Between, NoneFits}
use Rattle.proposed_answers.specs.Behind.{tree_count}
use Rattle.proposed_answers.specs.Shares.{level_share}
use Rattle.proposed_answers.specs.declared.effort.Effort.{Effort}
use Rattle.proposed_answers.specs.declared.effort.Effort.TheVariants.{Root, Share}

-- places that are a packing at a height, and tokens that refute it
abbrev pub IsPackedAt : PlainInstance → ℕ → List ℕ → Type 0
IsPackedAt instance h places = IsPacking (with_last_side instance h) places

abbrev pub IsRefutedAt : PlainInstance → ℕ → List PlainToken → Type 0
IsRefutedAt instance h tokens = Refutes (with_last_side instance h) [] tokens

-- the count of branchings of the class tree of a height
abbrev pub height_count : PlainInstance → Bool → ℕ → ℕ
height_count instance scales h = tree_count (with_last_side instance h) scales

-- what is known of an instance that was left open: behind its tree, that this has more branchings than
-- the share of the budget
abbrev pub IsPastTree : PlainInstance → Settings → Effort → Type 0
IsPastTree instance settings Root = Unit {0}
IsPastTree instance settings Share = level_share settings.budget < tree_count instance settings.scales

-- and of a height
abbrev pub IsPastHeight : PlainInstance → Settings → Effort → ℕ → Type 0
IsPastHeight instance settings effort h = IsPastTree (with_last_side instance h) settings effort

-- the answer at a height
abbrev pub IsHeightAnswer : PlainInstance → Settings → Effort → ℕ → PlainLevel → Type 0
IsHeightAnswer instance settings effort =
    IsRightAnswer (IsPackedAt instance) (IsRefutedAt instance) (IsPastHeight instance settings effort)

-- bounds of the least height
abbrev pub AreHeightBounds : PlainInstance → Settings → Effort → PlainBounds → Type 0
AreHeightBounds instance settings effort =
    AreBounds (IsPackedAt instance) (IsRefutedAt instance) (IsPastHeight instance settings effort) max_height

-- the answer states these bounds
pub record TellsLeast (b : PlainBounds) (height : ℕ) (places : List ℕ) (tokens : List PlainToken) : Type 0 where
  pub beside : suc b.refuted ≡ b.placed
  pub height_is : height ≡ b.placed
  pub places_are : places ≡ b.numbers
  pub tokens_are : tokens ≡ b.tokens

pub record TellsBetween (b : PlainBounds) (refuted : ℕ) (tokens : List PlainToken) (height : ℕ) (places : List ℕ) :
    Type 0 where
  pub apart : suc b.refuted < b.placed
  pub refuted_is : refuted ≡ b.refuted
  pub tokens_are : tokens ≡ b.tokens
  pub height_is : height ≡ b.placed
  pub places_are : places ≡ b.numbers

abbrev pub TellsHeights : PlainBounds → Strip → Type 0
TellsHeights b (Least height places tokens) = TellsLeast b height places.items tokens
TellsHeights b (Between refuted tokens height places) =
    TellsBetween b refuted tokens height places.items
TellsHeights b (NoneFits v i) = ⊥

-- `NoneFits` exactly where a box is too wide, with the first one
abbrev pub IsNamedStrip : PlainInstance → Strip → Type 0
IsNamedStrip instance (Least height places tokens) = ¬ HasTooWideBox instance
IsNamedStrip instance (Between refuted tokens height places) = ¬ HasTooWideBox instance
IsNamedStrip instance (NoneFits v i) = IsFirstTooWide instance v i

-- heights are at most the greatest that a container may have
abbrev pub IsLimitedStrip : Strip → Type 0
IsLimitedStrip (Least height places tokens) = height ≤ max_height
IsLimitedStrip (Between refuted tokens height places) = height ≤ max_height
IsLimitedStrip (NoneFits v i) = Unit {0}

-- `Between` only where the class trees of the height above the refuted one and of the height below the
-- placed one have more branchings than the share of the budget
abbrev pub AreNeighboursPastBudget : PlainInstance → ℕ → Bool → Strip → Type 0
AreNeighboursPastBudget instance budget scales (Least height places tokens) = Unit {0}
AreNeighboursPastBudget instance budget scales (Between refuted tokens height places) =
    (level_share budget < height_count instance scales (suc refuted))
    × (level_share budget < height_count instance scales (pred height))
AreNeighboursPastBudget instance budget scales (NoneFits v i) = Unit {0}
