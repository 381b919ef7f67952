-- A task is split: where it stands in the order, what the links then lead through, and what is kept.
use Rattle.std.proofs.Common.{◌≡◌, ℕ, zero, suc, ◌+◌, ◌*◌, ◌-◌, ◌<◌, ◌≤◌, ◌⊎◌, inl, inr, refl, sym, ap, ap₂, ◌∙◌, subst}
use Rattle.std.proofs.Common.{arith, List, [], ◌∷◌, ◌++◌, length, reverse, take, drop, get_or, append_assoc, Option}
use Rattle.std.proofs.Common.{Some, Bool, IfSome}
use Rattle.std.specs.List.{range_with_len}
use Rattle.std.specs.Prelude.{slice_get}
use Rattle.std.proofs.lemmas.Bool.{cases_eq, cases_lt}
use Rattle.std.proofs.lemmas.List.{reverse-reverse, map-append, take-append-drop, length-take-le}
use Rattle.tree_terms.specs.Trees.{SearchTree, node_at}
use Rattle.tree_terms.specs.Paths.{Splits, node_view}
use Rattle.work_share.specs.declared.Event.{Event}
use Rattle.work_share.specs.declared.Event.TheVariants as event
use Rattle.work_share.specs.Board.{TaskEntry, PlainTask, Out, out_path, children_from}
use Rattle.work_share.specs.Steps.{Divides}
use Rattle.work_share.specs.Kept.{IsNotIn, AreDistinct, AreBelow, AreFromLeft, task_paths}
use Rattle.work_share.proofs.Lists.{below_left, below_right}
use Rattle.proof_tree.specs.declared.token.Token.{Token}
use Rattle.proof_tree.specs.Plain.{plain_token}
use Rattle.work_share.specs.declared.slot.Slot.{Slot}
use Rattle.work_share.specs.declared.slot.SlotState.TheVariants as stored
use Rattle.work_share.specs.Slots.{entry_at, entries_of, entries_from, with_slot}
use Rattle.work_share.specs.Links.{next_of, order_of, IsChain, IsLinked, link_to, links_from, links_of, with_link}
use Rattle.work_share.specs.Stacks.{count_left}
use Rattle.work_share.specs.Fronts.{IsFront, HasFrontTo}
use Rattle.work_share.specs.Boards.{stored_state, waiting_tasks, IsIn, IsKept}
use Rattle.work_share.proofs.Stored.{length_with_slot}
use Rattle.work_share.proofs.Links.{length_with_link, entries_linked, followed, chain_inserted}
use Rattle.work_share.proofs.Stacks.{left_counted}
use Rattle.work_share.proofs.Waiting.{waiting_append}
use Rattle.work_share.proofs.Standing.{out_there}
use Rattle.work_share.proofs.Kept.{keeps_stored, distinct_order, kept_same}
use Rattle.work_share.proofs.Splitting.{distinct_rest, split_apart, split_below, position_inside, parts, front_parts}
use Rattle.work_share.proofs.Splitting.{split_new_below, split_known, split_size, split_step, split_kept}

-- ---- the position of a number

pub record IsAt (n : ℕ) (order : List ℕ) : Type 0 where
  pub index : ℕ
  pub passed : IsNotIn n (take index order)
  pub here : get_or order index 0 ≡ n

find : (n : ℕ) (order : List ℕ) → IsIn n order → IsAt n order
find n [] i = absurd i
find n (m ∷ order) i = go (cases_eq m n) (find n order)
  where
    behind : (n ≡ m) ⊎ IsIn n order → ¬ (m ≡ n) → IsIn n order
    behind (inl e) d = absurd (d (sym e))
    behind (inr j) d = j

    go : (m ≡ n) ⊎ (m ≡ n → ⊥) → (IsIn n order → IsAt n order) → IsAt n (m ∷ order)
    go (inl e) more = record { index = 0; passed = tt; here = e }
    go (inr d) more =
        let rest = more (behind i d) in
        record { index = suc rest.index; passed = ((λ e. d (sym e)), rest.passed); here = rest.here }

not_before : (order : List ℕ) (len k n : ℕ) → IsNotIn n (take len order) → k < length order → get_or order k 0 ≡ n
    → k < len → ⊥
not_before [] len k n a l e m = absurd (omega (arith, l))
not_before (x ∷ order) zero k n a l e m = absurd (omega (arith, m))
not_before (x ∷ order) (suc len) zero n a l e m = a.0 (sym e)
not_before (x ∷ order) (suc len) (suc k) n a l e m = not_before order len k n a.1 (omega (arith, l)) e
    (omega (arith, m))

get_front : (xs ys : List ℕ) (i : ℕ) → i < length xs → slice_get (xs ++ ys) i ≡ slice_get xs i
get_front [] ys i l = absurd (omega (arith, l))
get_front (x ∷ xs) ys zero l = refl
get_front (x ∷ xs) ys (suc i) l = get_front xs ys i (omega (arith, l))

-- a stack with `tasks` below its last `left` tasks
abbrev with_tasks : List PlainTask → ℕ → List PlainTask → List PlainTask
with_tasks stack left tasks = take (length stack - left) stack ++ (tasks ++ drop (length stack - left) stack)

module _ (tree : SearchTree) (budget : ℕ) (slots : List Slot) (order : List ℕ) (stack : List PlainTask) (len count : ℕ)
    (ended short : Bool)
    (history : List Event) (capacity : ℕ) (kept : IsKept tree budget slots order stack len count ended short history
    capacity) (n : ℕ) (p : List ℕ)
    (out : out_path n (entries_of slots order) ≡ Some p) (token : Token) (own c : ℕ) (made : List Slot) where
  abbrev relinked : List Slot
  relinked = with_link slots n (link_to (length slots) c (next_of slots n))

  abbrev divided : List Slot
  divided = with_slot relinked n (stored.Split token own c) ++ made

  same : entries_of relinked order ≡ entries_of slots order
  same = entries_linked slots n (link_to (length slots) c (next_of slots n)) order

  size : length relinked ≡ length slots
  size = length_with_link slots n (link_to (length slots) c (next_of slots n))

  kept_here : IsKept tree budget relinked order stack len count ended short history capacity
  kept_here = kept_same tree budget slots relinked order stack len count ended short history capacity kept same size

  out_here : out_path n (entries_of relinked order) ≡ Some p
  out_here = ap (out_path n) same ∙ out

  there : IsIn n order × (entry_at relinked n ≡ TaskEntry n p Out)
  there = out_there relinked order n p out_here

  place : IsAt n order
  place = find n order there.0

  -- where the task stands
  abbrev k : ℕ
  k = place.index

  passed : IsNotIn n (take k order)
  passed = place.passed

  here : get_or order k 0 ≡ n
  here = place.here

  inside : k < length order
  inside = position_inside tree budget relinked order stack len count ended short history capacity kept_here n p
      out_here k passed (λ _. here)

  order_parts : order ≡ take k order ++ n ∷ drop (k + 1) order
  order_parts = parts tree budget relinked order stack len count ended short history capacity kept_here n p out_here k
      passed (λ _. here)

  front_is : take (k + 1) order ≡ take k order ++ n ∷ []
  front_is = front_parts tree budget relinked order stack len count ended short history capacity kept_here n p out_here
      k passed (λ _. here)

  below : AreBelow (length slots) (take k order ++ n ∷ drop (k + 1) order)
  below = subst (λ ns. AreBelow (length slots) ns) order_parts
      (split_below tree budget slots order stack len count ended short history capacity kept n p out)

  distinct : AreDistinct (take k order ++ n ∷ drop (k + 1) order)
  distinct = subst AreDistinct order_parts (distinct_order tree budget slots order
      (keeps_stored tree budget slots order short history kept.replays))

  -- what stands left of the task
  left_is : count_left p (reverse stack) ≡ length (waiting_tasks (entries_of relinked (take k order)))
  left_is =
      let pre = entries_of relinked (take k order) in
      let post = entries_of relinked (drop (k + 1) order) in
      let keeps = keeps_stored tree budget relinked order short history kept_here.replays in
      let all : entries_of relinked order ≡ pre ++ TaskEntry n p Out ∷ post = ap (entries_of relinked) order_parts
      ∙ entry_parts (take k order) in
      let waiting : reverse stack ≡ waiting_tasks pre ++ waiting_tasks post =
      ap reverse kept_here.stacked ∙ (reverse-reverse (waiting_tasks (entries_of relinked order))
      ∙ (ap waiting_tasks all ∙ waiting_append pre (TaskEntry n p Out ∷ post))) in
      ap (count_left p) waiting ∙ left_counted n p pre post (subst (λ es. AreFromLeft (task_paths es)) all keeps.order)
    where
      entry_parts : (ns : List ℕ) → entries_of relinked (ns ++ n ∷ drop (k + 1) order)
          ≡ entries_of relinked ns ++ TaskEntry n p Out ∷ entries_of relinked (drop (k + 1) order)
      entry_parts ns = map-append (entry_at relinked) ns (n ∷ drop (k + 1) order)
          ∙ ap (λ e. entries_of relinked ns ++ e ∷ entries_of relinked (drop (k + 1) order)) there.1

  -- the front stands before the task
  before : len ≤ k
  before = go (cases_lt k len)
    where
      go : (k < len) ⊎ (len ≤ k) → len ≤ k
      go (inl l) = absurd (not_before order len k n
          (split_apart tree budget relinked order stack len count ended short history capacity kept_here n p out_here)
          inside here l)
      go (inr l) = l

  module _ (children : entries_from (length slots) made ≡ children_from p 0 c (length slots))
      (links : links_of made ≡ links_from (length slots) c (next_of slots n))
      (chain : IsChain slots (Some 0) order) where
    abbrev new_order : List ℕ
    new_order = take (k + 1) order ++ (range_with_len (length relinked) c ++ drop (k + 1) order)

    children_here : entries_from (length relinked) made ≡ children_from p 0 c (length relinked)
    children_here = subst (λ m. entries_from m made ≡ children_from p 0 c m) (sym size) children

    new_chain : IsChain divided (Some 0) new_order
    new_chain =
        let post = drop (k + 1) order in
        let b = below_right (length slots) (take k order) (n ∷ post) below in
        let h = chain_inserted slots made n c (stored.Split token own c) (take k order) post b.0
        (length_with_slot relinked n (stored.Split token own c) ∙ size)
        (below_left (length slots) (take k order) (n ∷ post) below) b.1 passed
        (distinct_rest n (take k order) post distinct) links
        (subst (λ ns. IsChain slots (Some 0) ns) order_parts chain) in
        let numbers : take k order ++ n ∷ (range_with_len (length slots) c ++ post) ≡ new_order =
        sym (append_assoc (take k order) (n ∷ []) (range_with_len (length slots) c ++ post))
        ∙ ap₂ (λ ns m. ns ++ (range_with_len m c ++ post)) (sym front_is) (sym size) in
        subst (λ ns. IsChain divided (Some 0) ns) numbers h

    new_size : length divided ≡ length new_order
    new_size = split_size tree budget relinked order stack len count ended short history capacity kept_here n p
        out_here k passed (λ _. here) token own c made children_here

    order_is : order_of divided ≡ new_order
    order_is = followed divided (Some 0) new_order (length divided) new_chain (let s = new_size in omega (arith, s))

    pub divide_size : length divided ≡ length (order_of divided)
    divide_size = new_size ∙ ap length (sym order_is)

    number_stays : slice_get (order_of divided) len ≡ slice_get order len
    number_stays =
        let i = inside in
        let b = before in
        let room : len < length (take (k + 1) order) =
        (let l = length-take-le (k + 1) order (omega (arith, i)) in omega (arith, l, b)) in
        ap (λ ns. slice_get ns len) order_is
        ∙ (get_front (take (k + 1) order) (range_with_len (length relinked) c ++ drop (k + 1) order) len room
        ∙ (sym (get_front (take (k + 1) order) (drop (k + 1) order) len room)
        ∙ ap (λ ns. slice_get ns len) (take-append-drop (k + 1) order)))

    pub divide_linked : (number : Option ℕ) → number ≡ slice_get order len → IsLinked divided len number
    divide_linked number e = record {
      chain = subst (λ ns. IsChain divided (Some 0) ns) (sym order_is) new_chain;
      here = e ∙ sym number_stays;
    }

    pub divide_below : AreBelow (length divided) (order_of divided)
    divide_below = subst (λ ns. AreBelow (length divided) ns) (sym order_is)
        (split_new_below tree budget relinked order stack len count ended short history capacity kept_here n p out_here
        k passed (λ _. here) token own c made children_here)

    pub divide_known : HasFrontTo budget (entries_of divided (order_of divided)) len count ended
    divide_known = subst (λ ns. HasFrontTo budget (entries_of divided ns) len count ended) (sym order_is)
        (split_known tree budget relinked order stack len count ended short history capacity kept_here n p out_here k
        passed (λ _. here) token own c made children_here)

    module _ (right : IfSome (node_at (Some tree) p) (λ node. node_view node ≡ Splits (plain_token token) own c)) where
      pub divide_step : Divides tree (stored_state slots order short) n (stored_state divided (order_of divided) short)
      divide_step =
          subst (λ ns. Divides tree (stored_state slots order short) n (stored_state divided ns short)) (sym order_is)
          (subst (λ es. Divides tree (record { entries = es; is_short = short }) n
          (stored_state divided new_order short)) same
          (split_step tree budget relinked order stack len count ended short history capacity kept_here n p out_here k
          passed (λ _. here) token own c made children_here right))

      pub divide_kept : (new_stack : List PlainTask) (new_capacity left : ℕ) → left ≡ count_left p (reverse stack)
          → new_stack ≡ with_tasks stack left (reverse (waiting_tasks (children_from p 0 c (length slots))))
          → 2 * (length order + c) + 1 ≤ new_capacity
          → (new_len new_count : ℕ) (new_ended : Bool)
          → IsFront budget (entries_of divided (order_of divided)) new_len new_count new_ended
          → IsKept tree budget divided (order_of divided) new_stack new_len new_count new_ended short
          (history ++ event.Split n ∷ []) new_capacity
      divide_kept new_stack new_capacity left counted stacked roomy new_len new_count new_ended front =
          let stacked_here = stacked ∙ ap₂ (λ j m. with_tasks stack j (reverse (waiting_tasks (children_from p 0 c m))))
          (counted ∙ left_is) (sym size) in
          subst (λ ns. IsKept tree budget divided ns new_stack new_len new_count new_ended short
          (history ++ event.Split n ∷ []) new_capacity) (sym order_is)
          (split_kept tree budget relinked order stack len count ended short history capacity kept_here n p out_here k
          passed (λ _. here) token own c made children_here right
          new_stack new_capacity stacked_here roomy new_len new_count new_ended
          (subst (λ ns. IsFront budget (entries_of divided ns) new_len new_count new_ended) order_is front))
