-- The order of stored entries: what links lead through, and how it changes with slots.
use Rattle.std.proofs.Common.{◌≡◌, ℕ, zero, suc, ◌+◌, ◌<◌, ◌≤◌, inl, inr, refl, sym, ap, ap₂, ◌∙◌, subst, arith}
use Rattle.std.proofs.Common.{add-one, List, [], ◌∷◌, ◌++◌, length, append_assoc, get_or, set, Option, Some, None}
use Rattle.std.proofs.Common.{if◌then◌else◌}
use Rattle.std.specs.List.{range_with_len}
use Rattle.std.specs.Prelude.{slice_get}
use Rattle.std.proofs.lemmas.Bool.{ne_eqb}
use Rattle.std.proofs.lemmas.List.{length_push}
use Rattle.std.proofs.lemmas.Option.{slice_get-get_or, slice_get_read, same_Some}
use Rattle.work_share.specs.Kept.{IsNotIn, AreBelow}
use Rattle.work_share.specs.declared.slot.Slot.{Slot}
use Rattle.work_share.specs.declared.slot.SlotState.{SlotState}
use Rattle.work_share.specs.Slots.{entry_or, entries_of, with_slot}
use Rattle.work_share.specs.Links.{behind_in, next_of, follow, order_of, IsChain, IsLinked, link_to, links_from}
use Rattle.work_share.specs.Links.{links_of, with_link}
use Rattle.work_share.specs.Boards.{IsIn}
use Rattle.work_share.proofs.Stored.{length_with_slot}

-- ---- a slot with another link

pub with_link_is : (slots : List Slot) (n : ℕ) (link : Option ℕ) (slot : Slot) → n < length slots → slot
    ≡ get_or slots n slot
    → set slots n (record slot { behind = link }) ≡ with_link slots n link
with_link_is [] n link slot l e = absurd (omega (arith, l))
with_link_is (x ∷ slots) zero link slot l e = ap (λ (s : Slot). record s { behind = link } ∷ slots) e
with_link_is (x ∷ slots) (suc n) link slot l e = ap (λ xs. x ∷ xs) (with_link_is slots n link slot (omega (arith, l)) e)

pub length_with_link : (slots : List Slot) (n : ℕ) (link : Option ℕ) → length (with_link slots n link) ≡ length slots
length_with_link [] n link = refl
length_with_link (x ∷ slots) zero link = refl
length_with_link (x ∷ slots) (suc n) link = ap suc (length_with_link slots n link)

pub link_same : (slots : List Slot) (n : ℕ) (link : Option ℕ) → n < length slots → next_of (with_link slots n link) n
    ≡ link
link_same [] n link l = absurd (omega (arith, l))
link_same (x ∷ slots) zero link l = refl
link_same (x ∷ slots) (suc n) link l = link_same slots n link (omega (arith, l))

pub link_other : (slots : List Slot) (n m : ℕ) (link : Option ℕ) → ¬ (m ≡ n) → next_of (with_link slots n link) m
    ≡ next_of slots m
link_other [] n m link d = refl
link_other (x ∷ slots) zero zero link d = absurd (d refl)
link_other (x ∷ slots) zero (suc m) link d = refl
link_other (x ∷ slots) (suc n) zero link d = refl
link_other (x ∷ slots) (suc n) (suc m) link d = link_other slots n m link (λ e. d (ap suc e))

-- its entry is the same
entry_linked : (slots : List Slot) (n m k : ℕ) (link : Option ℕ) → entry_or k (slice_get (with_link slots n link) m)
    ≡ entry_or k (slice_get slots m)
entry_linked [] n m k link = refl
entry_linked (x ∷ slots) zero zero k link = refl
entry_linked (x ∷ slots) zero (suc m) k link = refl
entry_linked (x ∷ slots) (suc n) zero k link = refl
entry_linked (x ∷ slots) (suc n) (suc m) k link = entry_linked slots n m k link

pub entries_linked : (slots : List Slot) (n : ℕ) (link : Option ℕ) (order : List ℕ)
    → entries_of (with_link slots n link) order ≡ entries_of slots order
entries_linked slots n link [] = refl
entries_linked slots n link (m ∷ order) = ap₂ (λ e es. e ∷ es) (entry_linked slots n m m link)
    (entries_linked slots n link order)

-- a state changes no link
pub link_stays : (slots : List Slot) (n m : ℕ) (state : SlotState) → next_of (with_slot slots n state) m
    ≡ next_of slots m
link_stays [] n m state = refl
link_stays (x ∷ slots) zero zero state = refl
link_stays (x ∷ slots) zero (suc m) state = refl
link_stays (x ∷ slots) (suc n) zero state = refl
link_stays (x ∷ slots) (suc n) (suc m) state = link_stays slots n m state

-- nor does a slot with the same link
pub link_set : (slots : List Slot) (n m : ℕ) (old new : Slot) → n < length slots → old ≡ get_or slots n old
    → new.behind ≡ old.behind
    → next_of (set slots n new) m ≡ next_of slots m
link_set [] n m old new l is e = refl
link_set (x ∷ slots) zero zero old new l is e = e ∙ ap (λ (s : Slot). s.behind) is
link_set (x ∷ slots) zero (suc m) old new l is e = refl
link_set (x ∷ slots) (suc n) zero old new l is e = refl
link_set (x ∷ slots) (suc n) (suc m) old new l is e = link_set slots n m old new (omega (arith, l)) is e

pub link_read : (slots : List Slot) (n : ℕ) (slot : Slot) → n < length slots → slot ≡ get_or slots n slot → slot.behind
    ≡ next_of slots n
link_read slots n slot l is = sym (ap behind_in (slice_get_read slots (length slots) n slot refl l is))

-- ---- what links lead through

pub followed : (slots : List Slot) (start : Option ℕ) (order : List ℕ) (more : ℕ) → IsChain slots start order
    → length order ≤ more → follow slots more start ≡ order
followed slots start [] zero h l = refl
followed slots start [] (suc more) h l = ap (follow slots (suc more)) h
followed slots start (n ∷ order) zero h l = absurd (omega (arith, l))
followed slots start (n ∷ order) (suc more) h l =
    ap (follow slots (suc more)) h.0 ∙ ap (λ ns. n ∷ ns)
    (followed slots (next_of slots n) order more h.1 (omega (arith, l)))

-- slots with the same links
pub follow_same : (slots others : List Slot) (more : ℕ) (start : Option ℕ)
    → ((m : ℕ) → next_of others m ≡ next_of slots m)
    → follow others more start ≡ follow slots more start
follow_same slots others zero start same = refl
follow_same slots others (suc more) None same = refl
follow_same slots others (suc more) (Some n) same =
    ap (λ ns. n ∷ ns) (ap (follow others more) (same n) ∙ follow_same slots others more (next_of slots n) same)

pub chain_same : (slots others : List Slot) (start : Option ℕ) (order : List ℕ)
    → ((m : ℕ) → IsIn m order → next_of others m ≡ next_of slots m)
    → IsChain slots start order → IsChain others start order
chain_same slots others start [] same h = h
chain_same slots others start (n ∷ order) same h = (
  h.0,
  subst (λ s. IsChain others s order) (sym (same n (inl refl)))
      (chain_same slots others (next_of slots n) order (λ m i. same m (inr i)) h.1),
)

chain_head : (slots : List Slot) (start : Option ℕ) (order : List ℕ) → IsChain slots start order → start
    ≡ slice_get order 0
chain_head slots start [] h = h
chain_head slots start (n ∷ order) h = h.0

-- the link at one position leads to the next
pub chain_next : (slots : List Slot) (start : Option ℕ) (order : List ℕ) (k n : ℕ) → IsChain slots start order
    → slice_get order k ≡ Some n
    → next_of slots n ≡ slice_get order (suc k)
chain_next slots start [] k n h e = absurd (cc e)
chain_next slots start (x ∷ order) zero n h e =
    ap (next_of slots) (sym (same_Some x n e)) ∙ chain_head slots (next_of slots x) order h.1
chain_next slots start (x ∷ order) (suc k) n h e = chain_next slots (next_of slots x) order k n h.1 e

-- the order of slots whose states alone changed
pub order_stays : (slots : List Slot) (n : ℕ) (state : SlotState) → order_of (with_slot slots n state) ≡ order_of slots
order_stays slots n state =
    ap (λ more. follow (with_slot slots n state) more (Some 0)) (length_with_slot slots n state)
    ∙ follow_same slots (with_slot slots n state) (length slots) (Some 0) (λ m. link_stays slots n m state)

pub linked_stays : (slots : List Slot) (n : ℕ) (state : SlotState) (position : ℕ) (number : Option ℕ)
    → IsLinked slots position number
    → IsLinked (with_slot slots n state) position number
linked_stays slots n state position number h =
    let order = order_stays slots n state in
    record {
      chain = subst (λ ns. IsChain (with_slot slots n state) (Some 0) ns) (sym order)
          (chain_same slots (with_slot slots n state) (Some 0) (order_of slots) (λ m _. link_stays slots n m state)
          h.chain);
      here = h.here ∙ ap (λ ns. slice_get ns position) (sym order);
    }

-- what stands at a position inside the order
pub number_there : (slots : List Slot) (position : ℕ) (number : Option ℕ) → IsLinked slots position number
    → position < length (order_of slots)
    → number ≡ Some (get_or (order_of slots) position 0)
number_there slots position number h l = h.here ∙ slice_get-get_or (order_of slots) position 0 l

-- ---- numbers put into an order

get_left : (xs ys : List Slot) (k : ℕ) → k < length xs → next_of (xs ++ ys) k ≡ next_of xs k
get_left [] ys k l = absurd (omega (arith, l))
get_left (x ∷ xs) ys zero l = refl
get_left (x ∷ xs) ys (suc k) l = get_left xs ys k (omega (arith, l))

get_here : (xs : List Slot) (y : Slot) (ys : List Slot) → next_of (xs ++ y ∷ ys) (length xs) ≡ y.behind
get_here [] y ys = refl
get_here (x ∷ xs) y ys = get_here xs y ys

head_link : (x y : Option ℕ) (xs ys : List (Option ℕ)) → x ∷ xs ≡ y ∷ ys → (x ≡ y) × (xs ≡ ys)
head_link x y xs ys e = (cc, cc)

-- the links of slots behind others, up to what is behind them
chain_made : (xs ys : List Slot) (c : ℕ) (behind : Option ℕ) (post : List ℕ) → links_of ys
    ≡ links_from (length xs) c behind → IsChain (xs ++ ys) behind post
    → IsChain (xs ++ ys) (link_to (length xs) c behind) (range_with_len (length xs) c ++ post)
chain_made xs ys zero behind post l h = h
chain_made xs [] (suc c) behind post l h = absurd (cc l)
chain_made xs (y ∷ ys) (suc c) behind post l h =
    let one : length (xs ++ y ∷ []) ≡ length xs + 1 = length_push xs y in
    let up : length xs + 1 ≡ suc (length xs) = add-one (length xs) in
    let all : (xs ++ y ∷ []) ++ ys ≡ xs ++ y ∷ ys = append_assoc xs (y ∷ []) ys in
    let links = head_link y.behind (link_to (suc (length xs)) c behind) (links_of ys)
    (links_from (suc (length xs)) c behind) l in
    let rest = chain_made (xs ++ y ∷ []) ys c behind post (links.1 ∙ ap (λ n. links_from n c behind) (sym (one ∙ up)))
    (subst (λ ss. IsChain ss behind post) (sym all) h) in
    let moved : IsChain (xs ++ y ∷ ys) (link_to (length xs + 1) c behind) (range_with_len (length xs + 1) c ++ post) =
    subst (λ ss. IsChain ss (link_to (length xs + 1) c behind) (range_with_len (length xs + 1) c ++ post)) all
    (subst (λ n. IsChain ((xs ++ y ∷ []) ++ ys) (link_to n c behind) (range_with_len n c ++ post)) one rest) in
    let here : next_of (xs ++ y ∷ ys) (length xs) ≡ link_to (length xs + 1) c behind =
    get_here xs y ys ∙ (links.0 ∙ ap (λ n. link_to n c behind) (sym up)) in
    let some : link_to (length xs) (suc c) behind ≡ Some (length xs) =
    ap (λ b. if b then behind else Some (length xs)) (ne_eqb (suc c) 0 (λ e. absurd (omega (arith, e)))) in
    (some, subst (λ s. IsChain (xs ++ y ∷ ys) s (range_with_len (length xs + 1) c ++ post)) (sym here) moved)

chain_rest : (slots : List Slot) (start : Option ℕ) (pre : List ℕ) (n : ℕ) (post : List ℕ)
    → IsChain slots start (pre ++ n ∷ post)
    → IsChain slots (next_of slots n) post
chain_rest slots start [] n post h = h.1
chain_rest slots start (x ∷ pre) n post h = chain_rest slots (next_of slots x) pre n post h.1

chain_through : (slots others : List Slot) (start : Option ℕ) (pre : List ℕ) (n : ℕ) (post rest : List ℕ)
    → ((m : ℕ) → IsIn m pre → next_of others m ≡ next_of slots m) → IsChain slots start (pre ++ n ∷ post)
    → IsChain others (next_of others n) rest
    → IsChain others start (pre ++ n ∷ rest)
chain_through slots others start [] n post rest same h r = (h.0, r)
chain_through slots others start (x ∷ pre) n post rest same h r = (
  h.0,
  subst (λ s. IsChain others s (pre ++ n ∷ rest)) (sym (same x (inl refl)))
      (chain_through slots others (next_of slots x) pre n post rest (λ m i. same m (inr i)) h.1 r),
)

in_apart : (n m : ℕ) (order : List ℕ) → IsNotIn n order → IsIn m order → ¬ (m ≡ n)
in_apart n m [] a i = absurd i
in_apart n m (x ∷ order) a (inl e) = λ f. a.0 (sym f ∙ e)
in_apart n m (x ∷ order) a (inr i) = in_apart n m order a.1 i

in_under : (n m : ℕ) (order : List ℕ) → AreBelow n order → IsIn m order → m < n
in_under n m [] a i = absurd i
in_under n m (x ∷ order) a (inl e) = let l = a.0 in omega (arith, l, e)
in_under n m (x ∷ order) a (inr i) = in_under n m order a.1 i

-- the numbers of new slots behind one, which is linked to them
module _ (slots made : List Slot) (n c : ℕ) (state : SlotState) (pre post : List ℕ) (inside : n < length slots)
    (size : length (with_slot (with_link slots n (link_to (length slots) c (next_of slots n))) n state)
    ≡ length slots)
    (below_pre : AreBelow (length slots) pre) (below_post : AreBelow (length slots) post) (apart_pre : IsNotIn n pre)
    (apart_post : IsNotIn n post)
    (links : links_of made ≡ links_from (length slots) c (next_of slots n)) where
  abbrev front : List Slot
  front = with_slot (with_link slots n (link_to (length slots) c (next_of slots n))) n state

  beside : (ns : List ℕ) → AreBelow (length slots) ns → IsNotIn n ns → (m : ℕ) → IsIn m ns
      → next_of (front ++ made) m ≡ next_of slots m
  beside ns b a m i =
      get_left front made m (subst (λ k. m < k) (sym size) (in_under (length slots) m ns b i))
      ∙ (link_stays (with_link slots n (link_to (length slots) c (next_of slots n))) n m state
      ∙ link_other slots n m (link_to (length slots) c (next_of slots n)) (in_apart n m ns a i))

  own : next_of (front ++ made) n ≡ link_to (length slots) c (next_of slots n)
  own =
      get_left front made n (subst (λ k. n < k) (sym size) inside)
      ∙ (link_stays (with_link slots n (link_to (length slots) c (next_of slots n))) n n state
      ∙ link_same slots n (link_to (length slots) c (next_of slots n)) inside)

  pub chain_inserted : IsChain slots (Some 0) (pre ++ n ∷ post)
      → IsChain (with_slot (with_link slots n (link_to (length slots) c (next_of slots n))) n state ++ made) (Some 0)
      (pre ++ n ∷ (range_with_len (length slots) c ++ post))
  chain_inserted h =
      let behind = next_of slots n in
      let old = chain_same slots (front ++ made) behind post (beside post below_post apart_post)
      (chain_rest slots (Some 0) pre n post h) in
      let new : IsChain (front ++ made) (link_to (length slots) c behind) (range_with_len (length slots) c ++ post) =
      subst (λ k. IsChain (front ++ made) (link_to k c behind) (range_with_len k c ++ post)) size
      (chain_made front made c behind post (links ∙ ap (λ k. links_from k c behind) (sym size)) old) in
      chain_through slots (front ++ made) (Some 0) pre n post (range_with_len (length slots) c ++ post)
      (beside pre below_pre apart_pre) h
      (subst (λ s. IsChain (front ++ made) s (range_with_len (length slots) c ++ post)) (sym own) new)
