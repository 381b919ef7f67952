-- The memory of decided sets.
use Rattle.std.specs.Prelude.{ℕ, ◌≡◌, ◌≤◌, ◌==◌, ◌||◌, ◌⊎◌, List, [], ◌∷◌, ◌++◌, length, Bool, false, nat_lt, if◌then◌else◌}
use Rattle.std.specs.Prelude.{Option, Some, None, ⊤}
use Rattle.std.specs.List.{Contains, All}
use Rattle.packing_terms.specs.Packing.{PlainInstance}
use Rattle.packing_terms.specs.Goals.{IsBoxSet}
use Rattle.packing_terms.specs.Tokens.{PlainToken}
use Rattle.packing_terms.specs.Tokens.PlainToken.{SetRefuted}
use Rattle.tree_terms.specs.Trees.{Verdict, PlainOutcome, Decided, Past, Yes, No, count_of, under_budget}
use Rattle.tree_terms.specs.OuterTrees.{set_verdict}
use Rattle.edge_state.specs.BitRows.{row_has}

-- whether a box is among those of a set
abbrev pub has_box : List ℕ → ℕ → Bool
has_box [] x = false
has_box (v ∷ vs) x = x == v || has_box vs x

-- the row has the boxes of the set
abbrev pub HasBoxes : List ℕ → List ℕ → Type 0
HasBoxes row keep = (x : ℕ) → row_has row x ≡ has_box keep x

-- a row of boxes, and what is kept of their set, which was found under a budget
pub record PlainEntry : Type 0 where
  pub boxes : List ℕ
  pub budget : ℕ
  pub outcome : PlainOutcome

-- an entry that has these boxes
pub record IsEntryOf (entries : List PlainEntry) (boxes : List ℕ) (e : PlainEntry) : Type 0 where
  pub there : Contains entries e
  pub same : e.boxes ≡ boxes

abbrev pub plain_count : PlainOutcome → ℕ
plain_count (Decided v) = count_of v
plain_count Past = 0

-- how many numbers and tokens an outcome holds
abbrev pub plain_size : PlainOutcome → ℕ
plain_size (Decided (Yes numbers count)) = length numbers
plain_size (Decided (No tokens count)) = length tokens
plain_size Past = 0

-- the outcome under a budget, from one that was found under a greater one
abbrev pub capped_under : ℕ → PlainOutcome → PlainOutcome
capped_under budget r = if nat_lt budget (plain_count r) then Past else r

-- an outcome that was found under a budget gives the outcome under another one: it is a verdict, or
-- the other budget isn't greater
abbrev pub Serves : PlainOutcome → ℕ → ℕ → Type 0
Serves (Decided v) found budget = ⊤
Serves Past found budget = budget ≤ found

-- it is the outcome under this budget, from an entry that has these boxes
pub record IsRecalled (entries : List PlainEntry) (boxes : List ℕ) (budget : ℕ) (r : PlainOutcome) : Type 0 where
  pub entry : PlainEntry
  pub kept : IsEntryOf entries boxes entry
  pub serves : Serves entry.outcome entry.budget budget
  pub capped : r ≡ capped_under budget entry.outcome

-- the outcome is no with this count, which is within the budget, and that is appended to the tokens,
-- with what refutes it
pub record IsRefutedOutcome (outcome : PlainOutcome) (budget : ℕ) (bin : Option ℕ) (old new : List PlainToken)
    (cost : ℕ) : Type 0 where
  pub tokens : List PlainToken
  pub is : outcome ≡ Decided (No tokens cost)
  pub within : cost ≤ budget
  pub appended : new ≡ old ++ SetRefuted bin ∷ tokens

-- the same where a count is given, and else the tokens are as before
abbrev pub IsAppendedOutcome :
    PlainOutcome → ℕ → Option ℕ → List PlainToken → List PlainToken → Option ℕ → Type 0
IsAppendedOutcome outcome budget bin old new None = new ≡ old
IsAppendedOutcome outcome budget bin old new (Some cost) = IsRefutedOutcome outcome budget bin old new cost

-- an entry that has these boxes is refuted so
pub record IsRefutedEntry (entries : List PlainEntry) (boxes : List ℕ) (budget : ℕ) (bin : Option ℕ)
    (old new : List PlainToken) (cost : ℕ) : Type 0 where
  pub entry : PlainEntry
  pub kept : IsEntryOf entries boxes entry
  pub refuted : IsRefutedOutcome entry.outcome budget bin old new cost

-- the same where a count is given, and else the tokens are as before
abbrev pub IsRecalledNo :
    List PlainEntry → List ℕ → ℕ → Option ℕ → List PlainToken → List PlainToken → Option ℕ → Type 0
IsRecalledNo entries boxes budget bin old new None = new ≡ old
IsRecalledNo entries boxes budget bin old new (Some cost) = IsRefutedEntry entries boxes budget bin old new cost

-- the entry is the one that was put, or it was there before
abbrev pub IsPut : List PlainEntry → PlainEntry → PlainEntry → Type 0
IsPut old put e = (e ≡ put) ⊎ Contains old e

-- the entry is one of another memory, or it was there before
abbrev pub IsCopied : List PlainEntry → List PlainEntry → PlainEntry → Type 0
IsCopied other old e = Contains other e ⊎ Contains old e

-- the outcome of an entry is the one, under its budget, of each set that has its boxes
pub record IsVerdict (instance : PlainInstance) (scales : Bool) (e : PlainEntry) : Type 0 where
  pub is : (keep : List ℕ) → IsBoxSet instance keep → HasBoxes e.boxes keep
      → e.outcome ≡ under_budget e.budget (set_verdict instance scales keep)

-- each entry is right
abbrev pub AreVerdicts : PlainInstance → Bool → List PlainEntry → Type 0
AreVerdicts instance scales entries = All (IsVerdict instance scales) entries

-- the verdict is no with this count, which is within the budget, and that is appended to the tokens,
-- with what refutes it
pub record IsNoVerdict (verdict : Verdict) (budget : ℕ) (bin : Option ℕ) (old new : List PlainToken) (cost : ℕ) :
    Type 0 where
  pub tokens : List PlainToken
  pub is : verdict ≡ No tokens cost
  pub within : cost ≤ budget
  pub appended : new ≡ old ++ SetRefuted bin ∷ tokens

-- the same where a count is given, and else the tokens are as before
abbrev pub IsAppendedNo : Verdict → ℕ → Option ℕ → List PlainToken → List PlainToken → Option ℕ → Type 0
IsAppendedNo verdict budget bin old new None = new ≡ old
IsAppendedNo verdict budget bin old new (Some cost) = IsNoVerdict verdict budget bin old new cost
