-- The entries of a board, as they are stored: by number, with their order beside them.
use Rattle.std.specs.Prelude.{ℕ, zero, suc, List, [], ◌∷◌, map, Option, Some, None, slice_get}
use Rattle.packing_terms.specs.Tokens.PlainToken.{Rules}
use Rattle.work_share.specs.Board.{PlainEntry, SplitEntry, TaskEntry, Waits as PlainWaits, Out as PlainOut}
use Rattle.work_share.specs.Board.{Done as PlainDone}
use Rattle.work_share.specs.Outcomes.{plain_outcome}
use Rattle.proof_tree.specs.Plain.{plain_token}
use Rattle.work_share.specs.declared.slot.Slot.{Slot}
use Rattle.work_share.specs.declared.slot.SlotState.{SlotState}
use Rattle.work_share.specs.declared.slot.SlotState.TheVariants.{Waits, Out, Done, Split}

-- an entry of this number and path in this state
abbrev pub entry_as : ℕ → List ℕ → SlotState → PlainEntry
entry_as number path Waits = TaskEntry number path PlainWaits
entry_as number path Out = TaskEntry number path PlainOut
entry_as number path (Done outcome) = TaskEntry number path (PlainDone (plain_outcome outcome))
entry_as number path (Split token own children) = SplitEntry number path (plain_token token) own children

-- the entry of this number
abbrev pub entry_of : ℕ → Slot → PlainEntry
entry_of number slot = entry_as number slot.path.items slot.state

-- the entry that may be there
abbrev pub entry_or : ℕ → Option Slot → PlainEntry
entry_or number None = SplitEntry number [] Rules 0 0
entry_or number (Some slot) = entry_of number slot

abbrev pub entry_at : List Slot → ℕ → PlainEntry
entry_at slots number = entry_or number (slice_get slots number)

-- the entries in their order, which is a list of their numbers
abbrev pub entries_of : List Slot → List ℕ → List PlainEntry
entries_of slots order = map (entry_at slots) order

-- the slots with another state at this number
abbrev pub with_slot : List Slot → ℕ → SlotState → List Slot
with_slot [] number state = []
with_slot (slot ∷ slots) zero state = record slot { state = state } ∷ slots
with_slot (slot ∷ slots) (suc number) state = slot ∷ with_slot slots number state

-- the entries of some slots, which are numbered from the given number on
abbrev pub entries_from : ℕ → List Slot → List PlainEntry
entries_from number [] = []
entries_from number (slot ∷ slots) = entry_of number slot ∷ entries_from (suc number) slots
