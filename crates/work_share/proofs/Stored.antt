-- The stored entries: what a state at one number changes, and which entries stand there.
use Rattle.std.proofs.Common.{◌≡◌, ℕ, zero, suc, ◌<◌, ◌⊎◌, inl, inr, refl, sym, ap, ap₂, ◌∙◌, subst, arith, List, []}
use Rattle.std.proofs.Common.{◌∷◌, ◌++◌, length, map, Option, Some, None, Bool, true, false, if◌then◌else◌, get_or, set}
use Rattle.std.specs.Prelude.{slice_get}
use Rattle.std.proofs.lemmas.Bool.{cases_eq}
use Rattle.std.proofs.lemmas.Option.{same_Some}
use Rattle.work_share.specs.Board.{PlainEntry, SplitEntry, TaskEntry, PlainTaskState, entry_number, at_first}
use Rattle.work_share.specs.Kept.{IsNotIn, AreDistinct}
use Rattle.work_share.specs.declared.slot.Slot.{Slot}
use Rattle.work_share.specs.declared.slot.SlotState.{SlotState}
use Rattle.work_share.specs.declared.slot.SlotState.TheVariants.{Waits, Out, Done, Split}
use Rattle.work_share.specs.Slots.{entry_as, entry_or, entry_at, entries_of, with_slot}

pub with_slot_is : (slots : List Slot) (n : ℕ) (state : SlotState) (slot : Slot) → n < length slots
    → slot ≡ get_or slots n slot
    → set slots n (record slot { state = state }) ≡ with_slot slots n state
with_slot_is [] n state slot l e = absurd (omega (arith, l))
with_slot_is (x ∷ slots) zero state slot l e = ap (λ (s : Slot). record s { state = state } ∷ slots) e
with_slot_is (x ∷ slots) (suc n) state slot l e =
    ap (λ xs. x ∷ xs) (with_slot_is slots n state slot (omega (arith, l)) e)

pub length_with_slot : (slots : List Slot) (n : ℕ) (state : SlotState) → length (with_slot slots n state) ≡ length slots
length_with_slot [] n state = refl
length_with_slot (x ∷ slots) zero state = refl
length_with_slot (x ∷ slots) (suc n) state = ap suc (length_with_slot slots n state)

get_same : (slots : List Slot) (n : ℕ) (state : SlotState) (slot : Slot) → slice_get slots n ≡ Some slot
    → slice_get (with_slot slots n state) n ≡ Some (record slot { state = state })
get_same [] n state slot e = absurd (cc e)
get_same (x ∷ slots) zero state slot e = ap (λ (s : Slot). Some (record s { state = state })) (same_Some x slot e)
get_same (x ∷ slots) (suc n) state slot e = get_same slots n state slot e

get_other : (slots : List Slot) (n m : ℕ) (state : SlotState) → ¬ (m ≡ n)
    → slice_get (with_slot slots n state) m ≡ slice_get slots m
get_other [] n m state d = refl
get_other (x ∷ slots) zero zero state d = absurd (d refl)
get_other (x ∷ slots) zero (suc m) state d = refl
get_other (x ∷ slots) (suc n) zero state d = refl
get_other (x ∷ slots) (suc n) (suc m) state d = get_other slots n m state (λ e. d (ap suc e))

-- ---- what stands at a number

as_number : (n : ℕ) (path : List ℕ) (state : SlotState) → entry_number (entry_as n path state) ≡ n
as_number n path Waits = refl
as_number n path Out = refl
as_number n path (Done outcome) = refl
as_number n path (Split token own children) = refl

abbrev path_in : PlainEntry → List ℕ
path_in (SplitEntry number path token own children) = path
path_in (TaskEntry number path state) = path

as_path : (n : ℕ) (path : List ℕ) (state : SlotState) → path_in (entry_as n path state) ≡ path
as_path n path Waits = refl
as_path n path Out = refl
as_path n path (Done outcome) = refl
as_path n path (Split token own children) = refl

pub at_number : (slots : List Slot) (n : ℕ) → entry_number (entry_at slots n) ≡ n
at_number slots n = go (slice_get slots n)
  where
    go : (o : Option Slot) → entry_number (entry_or n o) ≡ n
    go None = refl
    go (Some slot) = as_number n slot.path.items slot.state

pub numbers_are : (slots : List Slot) (order : List ℕ) → map entry_number (entries_of slots order) ≡ order
numbers_are slots [] = refl
numbers_are slots (n ∷ order) = ap₂ (λ x xs. x ∷ xs) (at_number slots n) (numbers_are slots order)

-- an entry with another state
pub put_at : (slots : List Slot) (n : ℕ) (state : SlotState) (path : List ℕ) (old : PlainTaskState)
    → entry_at slots n ≡ TaskEntry n path old
    → entry_at (with_slot slots n state) n ≡ entry_as n path state
put_at slots n state path old e = go (slice_get slots n) refl e
  where
    go : (o : Option Slot) → slice_get slots n ≡ o → entry_or n o ≡ TaskEntry n path old
        → entry_at (with_slot slots n state) n ≡ entry_as n path state
    go None f h = absurd (cc h)
    go (Some slot) f h =
        ap (entry_or n) (get_same slots n state slot f)
        ∙ ap (λ p. entry_as n p state) (sym (as_path n slot.path.items slot.state) ∙ ap path_in h)

pub put_other : (slots : List Slot) (n m : ℕ) (state : SlotState) → ¬ (m ≡ n)
    → entry_at (with_slot slots n state) m ≡ entry_at slots m
put_other slots n m state d = ap (entry_or m) (get_other slots n m state d)

pub put_beside : (slots : List Slot) (n : ℕ) (state : SlotState) (order : List ℕ) → IsNotIn n order
    → entries_of (with_slot slots n state) order ≡ entries_of slots order
put_beside slots n state [] a = refl
put_beside slots n state (m ∷ order) a =
    ap₂ (λ x xs. x ∷ xs) (put_other slots n m state (λ e. a.0 (sym e))) (put_beside slots n state order a.1)

-- where a test finds no entry but that of this number, the change of the first that passes is the change at the number
module _ (slots : List Slot) (n : ℕ) (state : SlotState) (test : PlainEntry → Bool)
    (change : PlainEntry → List PlainEntry)
    (only : (e : PlainEntry) → test e ≡ true → entry_number e ≡ n) (passes : test (entry_at slots n) ≡ true)
    (changed : change (entry_at slots n) ≡ entry_at (with_slot slots n state) n ∷ []) where
  pub put_in : (order : List ℕ) → AreDistinct order
      → entries_of (with_slot slots n state) order ≡ at_first test change (entries_of slots order)
  put_in [] d = refl
  put_in (m ∷ order) d = pick (cases_eq m n) (put_in order d.1)
    where
      here : m ≡ n → entry_at (with_slot slots n state) m ∷ entries_of (with_slot slots n state) order
          ≡ at_first test change (entry_at slots m ∷ entries_of slots order)
      here e =
          let beside = put_beside slots n state order (subst (λ k. IsNotIn k order) e d.0) in
          let pass : test (entry_at slots m) ≡ true = subst (λ k. test (entry_at slots k) ≡ true) (sym e) passes in
          let at : change (entry_at slots m) ≡ entry_at (with_slot slots n state) m ∷ [] =
          subst (λ k. change (entry_at slots k) ≡ entry_at (with_slot slots n state) k ∷ []) (sym e) changed in
          rw pass (ap (λ xs. entry_at (with_slot slots n state) m ∷ xs) beside
          ∙ sym (ap (λ xs. xs ++ entries_of slots order) at))

      there : ¬ (m ≡ n) → entries_of (with_slot slots n state) order ≡ at_first test change (entries_of slots order)
          → entry_at (with_slot slots n state) m ∷ entries_of (with_slot slots n state) order
          ≡ at_first test change (entry_at slots m ∷ entries_of slots order)
      there e rest = go (test (entry_at slots m)) refl
        where
          go : (b : Bool) → test (entry_at slots m) ≡ b
              → entry_at (with_slot slots n state) m ∷ entries_of (with_slot slots n state) order
              ≡ (if test (entry_at slots m) then change (entry_at slots m)
              ++ entries_of slots order else entry_at slots m ∷ at_first test change (entries_of slots order))
          go true f = absurd (e (sym (at_number slots m) ∙ only (entry_at slots m) f))
          go false f = rw f (ap₂ (λ x xs. x ∷ xs) (put_other slots n m state e) rest)

      pick : (m ≡ n) ⊎ (m ≡ n → ⊥) → entries_of (with_slot slots n state) order
          ≡ at_first test change (entries_of slots order)
          → entry_at (with_slot slots n state) m ∷ entries_of (with_slot slots n state) order
          ≡ at_first test change (entry_at slots m ∷ entries_of slots order)
      pick (inl e) rest = here e
      pick (inr e) rest = there e rest
