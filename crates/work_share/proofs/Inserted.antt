-- Entries put among others: lists with a part in between, and what is read of stored entries behind others.
use Rattle.std.proofs.Common.{◌≡◌, ℕ, zero, suc, ◌+◌, ◌*◌, ◌-◌, ◌<◌, ◌≤◌, inl, inr, refl, sym, ap, ap₂, ◌∙◌, arith}
use Rattle.std.proofs.Common.{add-one, List, [], ◌∷◌, ◌++◌, length, reverse, take, drop, append_assoc, Some, true}
use Rattle.std.proofs.Common.{false, if◌then◌else◌}
use Rattle.std.specs.List.{range_with_len}
use Rattle.std.specs.Prelude.{slice_get}
use Rattle.std.proofs.lemmas.Bool.{cases_lt}
use Rattle.std.proofs.lemmas.List.{length-append, length_push, reverse-append, take_at, drop_at, length-reverse}
use Rattle.work_share.specs.Board.{PlainEntry, PlainTask, is_out, at_first, children_from}
use Rattle.work_share.specs.Kept.{IsNotIn, AreBelow}
use Rattle.work_share.specs.declared.slot.Slot.{Slot}
use Rattle.work_share.specs.Slots.{entry_or, entry_at, entries_of, entries_from}
use Rattle.work_share.specs.Boards.{owed, IsIn}
use Rattle.work_share.proofs.Standing.{out_number}

get_left : (xs ys : List Slot) (k : ℕ) → k < length xs → slice_get (xs ++ ys) k ≡ slice_get xs k
get_left [] ys k l = absurd (omega (arith, l))
get_left (x ∷ xs) ys zero l = refl
get_left (x ∷ xs) ys (suc k) l = get_left xs ys k (omega (arith, l))

pub entry_left : (xs ys : List Slot) (k : ℕ) → k < length xs → entry_at (xs ++ ys) k ≡ entry_at xs k
entry_left xs ys k l = ap (entry_or k) (get_left xs ys k l)

pub entries_left : (xs ys : List Slot) (order : List ℕ) → AreBelow (length xs) order
    → entries_of (xs ++ ys) order ≡ entries_of xs order
entries_left xs ys [] b = refl
entries_left xs ys (k ∷ order) b = ap₂ (λ e es. e ∷ es) (entry_left xs ys k b.0) (entries_left xs ys order b.1)

get_here : (xs : List Slot) (y : Slot) (ys : List Slot) → slice_get (xs ++ y ∷ ys) (length xs) ≡ Some y
get_here [] y ys = refl
get_here (x ∷ xs) y ys = get_here xs y ys

-- the entries behind others, by their numbers
pub entries_right : (xs ys : List Slot) → entries_of (xs ++ ys) (range_with_len (length xs) (length ys))
    ≡ entries_from (length xs) ys
entries_right xs [] = refl
entries_right xs (y ∷ ys) =
    let one : length (xs ++ y ∷ []) ≡ length xs + 1 = length_push xs y in
    let all : (xs ++ y ∷ []) ++ ys ≡ xs ++ y ∷ ys = append_assoc xs (y ∷ []) ys in
    let rest = entries_right (xs ++ y ∷ []) ys in
    let moved : entries_of (xs ++ y ∷ ys) (range_with_len (length xs + 1) (length ys))
    ≡ entries_from (suc (length xs)) ys =
    sym (ap₂ (λ ss n. entries_of ss (range_with_len n (length ys))) all one)
    ∙ (rest ∙ ap (λ n. entries_from n ys) (one ∙ add-one (length xs))) in
    ap₂ (λ e es. e ∷ es) (ap (entry_or (length xs)) (get_here xs y ys)) moved

pub length_from : (n : ℕ) (slots : List Slot) → length (entries_from n slots) ≡ length slots
length_from n [] = refl
length_from n (slot ∷ slots) = ap suc (length_from (suc n) slots)

pub length_children : (path : List ℕ) (k more n : ℕ) → length (children_from path k more n) ≡ more
length_children path k zero n = refl
length_children path k (suc more) n = ap suc (length_children path (suc k) more (suc n))

pub owed_children : (path : List ℕ) (k more n : ℕ) → owed (children_from path k more n) ≡ 2 * more
owed_children path k zero n = refl
owed_children path k (suc more) n = let r = owed_children path (suc k) more (suc n) in omega (arith, r)

-- ---- a change behind entries that don't pass

pub change_behind : (slots : List Slot) (n : ℕ) (change : PlainEntry → List PlainEntry) (pre : List ℕ)
    (ys : List PlainEntry) → IsNotIn n pre
    → at_first (is_out n) change (entries_of slots pre ++ ys) ≡ entries_of slots pre ++ at_first (is_out n) change ys
change_behind slots n change [] ys a = refl
change_behind slots n change (m ∷ pre) ys a =
    elim (is_out n (entry_at slots m)) as (λ b. is_out n (entry_at slots m) ≡ b
    → (if b then change (entry_at slots m) ++ (entries_of slots pre ++ ys) else entry_at slots m
    ∷ at_first (is_out n) change (entries_of slots pre ++ ys))
    ≡ entry_at slots m ∷ (entries_of slots pre ++ at_first (is_out n) change ys)) [
      | true ↦ λ f. absurd (a.0 (sym (out_number slots n m f)))
      | false ↦ λ _. ap (λ es. entry_at slots m ∷ es) (change_behind slots n change pre ys a.1)
    ] refl

pub change_here : (n : ℕ) (change : PlainEntry → List PlainEntry) (e : PlainEntry) (ys : List PlainEntry)
    → is_out n e ≡ true
    → at_first (is_out n) change (e ∷ ys) ≡ change e ++ ys
change_here n change e ys h = rw h refl

-- ---- numbers in an order

pub in_right : (k : ℕ) (zs ys : List ℕ) → IsIn k ys → IsIn k (zs ++ ys)
in_right k [] ys j = j
in_right k (z ∷ zs) ys j = inr (in_right k zs ys j)

pub in_left : (k : ℕ) (zs ys : List ℕ) → IsIn k zs → IsIn k (zs ++ ys)
in_left k [] ys j = absurd j
in_left k (z ∷ zs) ys (inl e) = inl e
in_left k (z ∷ zs) ys (inr j) = inr (in_left k zs ys j)

pub in_insert : (k : ℕ) (xs zs ys : List ℕ) → IsIn k (xs ++ ys) → IsIn k (xs ++ (zs ++ ys))
in_insert k [] zs ys i = in_right k zs ys i
in_insert k (x ∷ xs) zs ys (inl e) = inl e
in_insert k (x ∷ xs) zs ys (inr i) = inr (in_insert k xs zs ys i)

pub in_middle : (k : ℕ) (xs zs ys : List ℕ) → IsIn k zs → IsIn k (xs ++ (zs ++ ys))
in_middle k xs zs ys i = in_right k xs (zs ++ ys) (in_left k zs ys i)

pub in_range : (k n c : ℕ) → n ≤ k → k < n + c → IsIn k (range_with_len n c)
in_range k n zero l m = absurd (omega (arith, l, m))
in_range k n (suc c) l m =
    elim (cases_lt n k) [
      | inl h ↦ inr (in_range k (n + 1) c (omega (arith, h)) (omega (arith, m)))
      | inr h ↦ inl (omega (arith, l, h))
    ]

pub not_in_no : (n : ℕ) (order : List ℕ) → IsIn n order → IsNotIn n order → ⊥
not_in_no n [] i a = i
not_in_no n (m ∷ order) (inl e) a = a.0 e
not_in_no n (m ∷ order) (inr i) a = not_in_no n order i a.1

-- ---- the stack

pub stack_inserted : (front middle back : List PlainTask) (stack : List PlainTask) (n : ℕ)
    → stack ≡ reverse (front ++ back) → n ≡ length stack - length front
    → take n stack ++ (reverse middle ++ drop n stack) ≡ reverse (front ++ (middle ++ back))
stack_inserted front middle back stack n s e =
    let parts : stack ≡ reverse back ++ reverse front = s ∙ reverse-append front back in
    let size : length (reverse back) ≡ n = (
    let a = ap length parts in
    let b = length-append (reverse back) (reverse front) in
    let c = length-reverse front in
    omega (arith, a, b, c, e)
    ) in
    let low : take n stack ≡ reverse back = ap (take n) parts ∙ take_at (reverse back) (reverse front) n size in
    let high : drop n stack ≡ reverse front = ap (drop n) parts ∙ drop_at (reverse back) (reverse front) n size in
    ap₂ (λ xs ys. xs ++ (reverse middle ++ ys)) low high
    ∙ (sym (append_assoc (reverse back) (reverse middle) (reverse front))
    ∙ (ap (λ xs. xs ++ reverse front) (sym (reverse-append middle back)) ∙ sym (reverse-append front (middle ++ back))))
