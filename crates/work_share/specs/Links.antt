-- The order of the entries of a board: each is linked to the one behind it, by its number.
use Rattle.std.specs.Prelude.{ℕ, zero, suc, ◌==◌, ◌≡◌, if◌then◌else◌, List, [], ◌∷◌, length, Option, Some, None}
use Rattle.std.specs.Prelude.{slice_get}
use Rattle.work_share.specs.declared.slot.Slot.{Slot}

-- the number of the entry behind one, if there is such an entry
abbrev pub behind_in : Option Slot → Option ℕ
behind_in None = None
behind_in (Some slot) = slot.behind

abbrev pub next_of : List Slot → ℕ → Option ℕ
next_of slots number = behind_in (slice_get slots number)

-- the numbers that the links lead through from `start` on, at most the given number of them
abbrev pub follow : List Slot → ℕ → Option ℕ → List ℕ
follow slots zero start = []
follow slots (suc more) None = []
follow slots (suc more) (Some number) = number ∷ follow slots more (next_of slots number)

-- the numbers of all entries in prefix order; the root's is 0
abbrev pub order_of : List Slot → List ℕ
order_of slots = follow slots (length slots) (Some 0)

-- the links lead from one on through these numbers, and end there
abbrev pub IsChain : List Slot → Option ℕ → List ℕ → Type 0
IsChain slots start [] = start ≡ None
IsChain slots start (number ∷ numbers) = (start ≡ Some number) × IsChain slots (next_of slots number) numbers

-- The links lead through the order of all entries and end there, and this is the number at that
-- position of the order, if there is one.
pub record IsLinked (slots : List Slot) (position : ℕ) (number : Option ℕ) : Type 0 where
  pub chain : IsChain slots (Some 0) (order_of slots)
  pub here : number ≡ slice_get (order_of slots) position

-- the link to the first of `more` entries, numbered from `number` on, or to what is behind them
abbrev pub link_to : ℕ → ℕ → Option ℕ → Option ℕ
link_to number more behind = if more == 0 then behind else Some number

-- the links of a given number of entries, numbered from `number` on: each to the next, and the last
-- to what is behind them
abbrev pub links_from : ℕ → ℕ → Option ℕ → List (Option ℕ)
links_from number zero behind = []
links_from number (suc more) behind = link_to (suc number) more behind ∷ links_from (suc number) more behind

-- the links of some slots
abbrev pub links_of : List Slot → List (Option ℕ)
links_of [] = []
links_of (slot ∷ slots) = slot.behind ∷ links_of slots

-- the slots with another link at this number
abbrev pub with_link : List Slot → ℕ → Option ℕ → List Slot
with_link [] number link = []
with_link (slot ∷ slots) zero link = record slot { behind = link } ∷ slots
with_link (slot ∷ slots) (suc number) link = slot ∷ with_link slots number link
