-- The leftmost finished run, as far as it is known: how many entries at the front are finished with
-- no, and their count.
use Rattle.std.specs.Prelude.{ℕ, ◌+◌, ◌<◌, ◌≤◌, ◌≡◌, List, [], ◌∷◌, length, take, drop, Bool, true, false}
use Rattle.tree_terms.specs.Trees.{Yes, No, PlainOutcome, Decided, Past}
use Rattle.work_share.specs.Board.{PlainEntry, SplitEntry, TaskEntry, PlainTaskState, Waits, Out, Done}
use Rattle.work_share.specs.declared.slot.Piece.{Piece}
use Rattle.work_share.specs.declared.slot.Piece.TheVariants.{Open, Found, Refuted, Spent}

-- what an entry is for the run: it ends before it, it ends with it, it goes on with this count
-- more, or it is past the budget
abbrev pub outcome_piece : PlainOutcome → Piece
outcome_piece (Decided (Yes numbers count)) = Found
outcome_piece (Decided (No tokens count)) = Refuted count
outcome_piece Past = Spent

abbrev pub state_piece : PlainTaskState → Piece
state_piece Waits = Open
state_piece Out = Open
state_piece (Done outcome) = outcome_piece outcome

abbrev pub piece_of : PlainEntry → Piece
piece_of (SplitEntry number path token own children) = Refuted own
piece_of (TaskEntry number path state) = state_piece state

abbrev pub IsRefutedPiece : Piece → Type 0
IsRefutedPiece Open = ⊥
IsRefutedPiece Found = ⊥
IsRefutedPiece (Refuted count) = Unit {0}
IsRefutedPiece Spent = ⊥

-- each entry is finished with no
abbrev pub AreRefuted : List PlainEntry → Type 0
AreRefuted [] = Unit {0}
AreRefuted (e ∷ es) = IsRefutedPiece (piece_of e) × AreRefuted es

abbrev pub count_in : Piece → ℕ
count_in Open = 0
count_in Found = 0
count_in (Refuted count) = count
count_in Spent = 0

-- the counts of entries that are finished with no
abbrev pub counted : List PlainEntry → ℕ
counted [] = 0
counted (e ∷ es) = count_in (piece_of e) + counted es

-- the run ends with an entry that is this piece, where this count stands before it
abbrev pub Ends : ℕ → ℕ → Piece → Type 0
Ends budget before Open = ⊥
Ends budget before Found = Unit {0}
Ends budget before (Refuted count) = budget < before + count
Ends budget before Spent = Unit {0}

-- the run ends with the first entry
abbrev pub EndsWithFirst : ℕ → ℕ → List PlainEntry → Type 0
EndsWithFirst budget before [] = ⊥
EndsWithFirst budget before (e ∷ es) = Ends budget before (piece_of e)

-- the first entry, if there is one, isn't finished
abbrev pub IsOpen : List PlainEntry → Type 0
IsOpen [] = Unit {0}
IsOpen (e ∷ es) = piece_of e ≡ Open

-- where the run stands: it has ended with the first of these, or that one isn't finished
abbrev pub StandsAt : ℕ → ℕ → Bool → List PlainEntry → Type 0
StandsAt budget count true rest = EndsWithFirst budget count rest
StandsAt budget count false rest = IsOpen rest

-- The first `len` entries are finished with no, and the sum of their counts is within the budget.
pub record HasFront (budget : ℕ) (entries : List PlainEntry) (len count : ℕ) : Type 0 where
  pub inside : len ≤ length entries
  pub refuted : AreRefuted (take len entries)
  pub sum : counted (take len entries) ≡ count
  pub within : count ≤ budget

-- the same, where what stands behind them may have ended the run
pub record HasFrontTo (budget : ℕ) (entries : List PlainEntry) (len count : ℕ) (is_ended : Bool) : Type 0 where
  pub known : HasFront budget entries len count
  pub ended : is_ended ≡ true → EndsWithFirst budget count (drop len entries)

-- the front is as long as it can be
pub record IsFront (budget : ℕ) (entries : List PlainEntry) (len count : ℕ) (is_ended : Bool) : Type 0 where
  pub known : HasFront budget entries len count
  pub stands : StandsAt budget count is_ended (drop len entries)
