-- Bounds of an optimum: a level that is refuted and a greater one that is placed, narrowed from both ends.
--
-- refuted      lowest     highest      placed      while they aren't neighbours, the level halfway
-- between refuted and
-- |-----x------|          |------------|        lowest is asked, and then the one halfway between
-- highest and placed
use Rattle.std.specs.Prelude.{ℕ, suc, pred, ◌+◌, ◌-◌, ◌/◌, ◌^◌, min, ◌<◌, ◌≤◌, ◌≡◌, ◌⊎◌, Bool, true, false, List}
use Rattle.std.specs.Prelude.{nat_lt, if◌then◌else◌}
use Rattle.packing_terms.specs.Tokens.{PlainToken}
use Rattle.tree_terms.specs.Levels.{PlainLevel, PlacedBy, RefutedBy, SpentAt}
use Rattle.level_search.specs.declared.bounds.Bounds.{Bounds}

-- The two levels with their certificates; the least level above the refuted one that was asked and not
-- refuted, and the greatest one below the placed one that was asked and not placed.
pub record PlainBounds : Type 0 where
  pub refuted : ℕ
  pub tokens : List PlainToken
  pub placed : ℕ
  pub numbers : List ℕ
  pub lowest : ℕ
  pub highest : ℕ

-- bounds, with plain lists
abbrev pub plain_bounds : Bounds → PlainBounds
plain_bounds b = record {
  refuted = b.refuted;
  tokens = b.tokens;
  placed = b.placed;
  numbers = b.numbers.items;
  lowest = b.lowest;
  highest = b.highest;
}

-- with nothing asked between the two
abbrev pub first_bounds : ℕ → List PlainToken → ℕ → List ℕ → PlainBounds
first_bounds refuted tokens placed numbers = record {
  refuted = refuted;
  tokens = tokens;
  placed = placed;
  numbers = numbers;
  lowest = placed;
  highest = refuted;
}

abbrev pub without_attempts : PlainBounds → PlainBounds
without_attempts b = first_bounds b.refuted b.tokens b.placed b.numbers

-- one level is strictly between two others
abbrev pub IsInside : ℕ → ℕ → ℕ → Type 0
IsInside below above level = (below < level) × (level < above)

-- no level is strictly between the two
abbrev pub AreNeighbours : ℕ → ℕ → Type 0
AreNeighbours below above = above ≤ suc below

-- the level may be asked: it is beside one of the two ends
abbrev pub IsAsked : PlainBounds → ℕ → Type 0
IsAsked b level = IsInside b.refuted b.lowest level ⊎ IsInside b.highest b.placed level

-- the level halfway between two, rounded down
abbrev pub middle : ℕ → ℕ → ℕ
middle below above = below + (above - below) / 2

-- the level is asked next: halfway between the refuted one and the lowest, or, where these are
-- neighbours, between the highest and the placed one
abbrev pub IsAskedNext : PlainBounds → ℕ → Type 0
IsAskedNext b level =
    ((suc b.refuted < b.lowest) × (level ≡ middle b.refuted b.lowest))
    ⊎ (AreNeighbours b.refuted b.lowest × ((suc b.highest < b.placed) × (level ≡ middle b.highest b.placed)))

-- the level is asked right beside an end: above the refuted one, or, where that is the neighbour of
-- the lowest, below the placed one
abbrev pub IsAdjacentLevel : PlainBounds → ℕ → Type 0
IsAdjacentLevel b level =
    ((suc b.refuted < b.lowest) × (level ≡ suc b.refuted))
    ⊎ (AreNeighbours b.refuted b.lowest × ((suc b.highest < b.placed) × (level ≡ pred b.placed)))

-- the level is asked after `misses` undecided levels in a row
abbrev pub IsLevelAfterMisses : ℕ → PlainBounds → ℕ → Type 0
IsLevelAfterMisses misses b level = ((misses < 3) × IsAskedNext b level) ⊎ ((3 ≤ misses) × IsAdjacentLevel b level)

-- how many levels in a row were undecided, after one more: none where that narrowed the gap, and else one more, as
-- far as numbers of 32 bits reach
abbrev pub updated_misses : ℕ → Bool → ℕ
updated_misses misses true = 0
updated_misses misses false = min (misses + 1) (2 ^ 32 - 1)

-- how far the two levels are from one another
abbrev pub gap_of : PlainBounds → ℕ
gap_of b = b.placed - b.refuted

-- nothing is left to be asked
abbrev pub HasNoLevelLeft : PlainBounds → Type 0
HasNoLevelLeft b = AreNeighbours b.refuted b.lowest × AreNeighbours b.highest b.placed

-- the bounds after the answer at a level
abbrev pub narrowed : PlainBounds → ℕ → PlainLevel → PlainBounds
narrowed b level (PlacedBy ns) = record b {
  placed = level;
  numbers = ns;
  lowest = if nat_lt level b.lowest then level else b.lowest;
  highest = if nat_lt b.highest level then b.highest else b.refuted;
}
narrowed b level (RefutedBy ts) = record b {
  refuted = level;
  tokens = ts;
  lowest = if nat_lt level b.lowest then b.lowest else b.placed;
  highest = if nat_lt b.highest level then level else b.highest;
}
narrowed b level SpentAt = record b {
  lowest = if nat_lt level b.lowest then level else b.lowest;
  highest = if nat_lt b.highest level then level else b.highest;
}

-- how many levels may still be asked, at most
abbrev pub levels_left : PlainBounds → ℕ
levels_left b = if nat_lt b.highest b.lowest then suc (b.placed - b.refuted) else
    (b.lowest - b.refuted) + (b.placed - b.highest)

-- The answer at a level is right, where these numbers show a level, these tokens refute one, and this
-- holds of one that was spent.
abbrev pub IsRightAnswer : (ℕ → List ℕ → Type 0) → (ℕ → List PlainToken → Type 0) → (ℕ → Type 0) → ℕ
    → PlainLevel → Type 0
IsRightAnswer Shows Denies Past level (PlacedBy ns) = Shows level ns
IsRightAnswer Shows Denies Past level (RefutedBy ts) = Denies level ts
IsRightAnswer Shows Denies Past level SpentAt = Past level

-- none of the levels between the two was spent, or the lowest and the highest one were
abbrev pub AreSpent : (ℕ → Type 0) → PlainBounds → Type 0
AreSpent Past b = ((b.lowest ≡ b.placed) × (b.highest ≡ b.refuted))
    ⊎ ((b.lowest ≤ b.highest) × (Past b.lowest × Past b.highest))

-- What bounds keep: the refuted level is below the placed one, which is at most a given one; both have
-- their certificates; and what lies between them was spent.
pub record AreBounds (Shows : ℕ → List ℕ → Type 0) (Denies : ℕ → List PlainToken → Type 0) (Past : ℕ → Type 0) (top : ℕ)
    (b : PlainBounds) : Type 0 where
  pub order : b.refuted < b.placed
  pub within : b.placed ≤ top
  pub denied : Denies b.refuted b.tokens
  pub shown : Shows b.placed b.numbers
  pub low : b.refuted < b.lowest
  pub high : b.highest < b.placed
  pub spent : AreSpent Past b

-- the two levels are neighbours, or both levels beside them were spent
abbrev pub IsClosed : (ℕ → Type 0) → PlainBounds → Type 0
IsClosed Past b = (suc b.refuted ≡ b.placed) ⊎ (Past (suc b.refuted) × Past (pred b.placed))
