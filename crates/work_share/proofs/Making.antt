-- The children of a split, made one after another.
use Rattle.std.proofs.Common.{◌≡◌, ℕ, suc, refl, ◌+◌, ◌-◌, ◌<◌, sym, ap, ap₂, ◌∙◌, arith, add-one, add-zero, List, []}
use Rattle.std.proofs.Common.{◌∷◌, ◌++◌, length, append_assoc, Option}
use Rattle.work_share.specs.Board.{TaskEntry, Waits, children_from}
use Rattle.work_share.specs.declared.slot.Slot.{Slot}
use Rattle.work_share.specs.Slots.{entry_of, entries_from}
use Rattle.work_share.specs.Links.{link_to, links_from, links_of}

pub entries_push : (n : ℕ) (slots : List Slot) (slot : Slot)
    → entries_from n (slots ++ slot ∷ []) ≡ entries_from n slots ++ entry_of (n + length slots) slot ∷ []
entries_push n [] slot = ap (λ k. entry_of k slot ∷ []) (sym (add-zero n))
entries_push n (x ∷ slots) slot =
    ap (λ es. entry_of n x ∷ es) (entries_push (suc n) slots slot
    ∙ ap (λ k. entries_from (suc n) slots ++ entry_of k slot ∷ [])
    (let e : suc n + length slots ≡ n + suc (length slots) = omega arith in e))

-- the next child and those behind it
pub children_next : (path : List ℕ) (k children first : ℕ) → k < children
    → children_from path k (children - k) (first + k)
    ≡ TaskEntry (first + k) (path ++ k ∷ []) Waits ∷ children_from path (k + 1) (children - (k + 1)) (first + (k + 1))
children_next path k children first l =
    let left : children - k ≡ suc (children - (k + 1)) = omega (arith, l) in
    let next : k + 1 ≡ suc k = add-one k in
    let number : first + (k + 1) ≡ suc (first + k) = omega arith in
    rw left (ap₂ (λ j m. TaskEntry (first + k) (path ++ k ∷ []) Waits ∷ children_from path j (children - (k + 1)) m)
    (sym next) (sym number))

pub links_push : (slots : List Slot) (slot : Slot) → links_of (slots ++ slot ∷ []) ≡ links_of slots ++ slot.behind ∷ []
links_push [] slot = refl
links_push (x ∷ slots) slot = ap (λ ls. x.behind ∷ ls) (links_push slots slot)

pub links_next : (k children first : ℕ) (behind : Option ℕ) → k < children
    → links_from (first + k) (children - k) behind
    ≡ link_to (first + k + 1) (children - (k + 1)) behind ∷ links_from (first + (k + 1)) (children - (k + 1)) behind
links_next k children first behind l =
    let left : children - k ≡ suc (children - (k + 1)) = omega (arith, l) in
    let number : first + (k + 1) ≡ suc (first + k) = omega arith in
    let up : first + k + 1 ≡ suc (first + k) = omega arith in
    rw left (ap₂ (λ n m. link_to n (children - (k + 1)) behind ∷ links_from m (children - (k + 1)) behind) (sym up)
    (sym number))

-- one more in front of what is left
pub moved_over : {A : Type 0} (xs : List A) (x : A) (ys zs all : List A) → zs ≡ x ∷ ys → xs ++ zs ≡ all
    → (xs ++ x ∷ []) ++ ys ≡ all
moved_over xs x ys zs all e h = append_assoc xs (x ∷ []) ys ∙ (ap (λ l. xs ++ l) (sym e) ∙ h)
