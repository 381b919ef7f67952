-- A task is split.
use Rattle.std.proofs.Common.{◌≡◌, ℕ, zero, suc, ◌+◌, ◌*◌, ◌-◌, ◌<◌, ◌≤◌, ◌⊎◌, inl, inr, refl, sym, ap, ap₂, ◌∙◌, subst}
use Rattle.std.proofs.Common.{arith, List, [], ◌∷◌, ◌++◌, length, reverse, take, drop, get_or, append_assoc, Option}
use Rattle.std.proofs.Common.{Some, None, Bool, IfSome, IsSome}
use Rattle.std.specs.List.{range_with_len}
use Rattle.std.proofs.lemmas.Bool.{true≢false, cases_lt, eq-eqb}
use Rattle.std.proofs.lemmas.List.{length-append, length_push, length-map, map-append, take-append-drop, take_more}
use Rattle.std.proofs.lemmas.List.{drop_more, take_all, take-map, length-reverse}
use Rattle.std.proofs.lemmas.List.FromFn.{length-range_with_len}
use Rattle.tree_terms.specs.Trees.{SearchTree, node_at}
use Rattle.tree_terms.specs.Paths.{Splits, node_view}
use Rattle.work_share.specs.declared.Event.{Event}
use Rattle.work_share.specs.declared.Event.TheVariants as event
use Rattle.work_share.specs.Board.{PlainEntry, SplitEntry, TaskEntry, PlainTask, Out, is_out, out_path, at_first}
use Rattle.work_share.specs.Board.{children_from, split_into}
use Rattle.work_share.specs.Steps.{divided, Divides}
use Rattle.work_share.specs.Kept.{IsNotIn, AreDistinct, AreBelow}
use Rattle.work_share.proofs.Lists.{below_left, below_right, below_append, below_more}
use Rattle.work_share.proofs.Calls.{divided_is}
use Rattle.proof_tree.specs.declared.token.Token.{Token}
use Rattle.proof_tree.specs.Plain.{plain_token}
use Rattle.work_share.specs.declared.slot.Slot.{Slot}
use Rattle.work_share.specs.declared.slot.Piece.TheVariants.{Open}
use Rattle.work_share.specs.declared.slot.SlotState.TheVariants as stored
use Rattle.work_share.specs.Slots.{entry_at, entries_of, entries_from, with_slot}
use Rattle.work_share.specs.Fronts.{piece_of, IsRefutedPiece, AreRefuted, IsFront, HasFrontTo}
use Rattle.work_share.specs.Boards.{stored_state, waiting_tasks, owed, owed_short, IsIn, IsKept}
use Rattle.work_share.proofs.Stored.{length_with_slot, put_at, put_beside}
use Rattle.work_share.proofs.Waiting.{waiting_append, owed_append}
use Rattle.work_share.proofs.Advance.{out_open, front_known}
use Rattle.work_share.proofs.Standing.{out_there}
use Rattle.work_share.proofs.Finishing.{out_reached}
use Rattle.work_share.proofs.Inserted.{entry_left, entries_left, entries_right, length_from, length_children}
use Rattle.work_share.proofs.Inserted.{owed_children, change_behind, change_here, in_insert, in_middle, in_range}
use Rattle.work_share.proofs.Inserted.{not_in_no, stack_inserted}
use Rattle.work_share.proofs.Kept.{keeps_stored, apart_stored, distinct_order, below_order, replay_more}

-- ---- what stands in the front

open_apart : (slots : List Slot) (n : ℕ) (order : List ℕ) → piece_of (entry_at slots n) ≡ Open
    → AreRefuted (entries_of slots order) → IsNotIn n order
open_apart slots n [] p r = tt
open_apart slots n (m ∷ order) p r = (
  (λ e. subst IsRefutedPiece (ap (λ k. piece_of (entry_at slots k)) (sym e) ∙ p) r.0),
  open_apart slots n order p r.1,
)

pub distinct_rest : (n : ℕ) (pre post : List ℕ) → AreDistinct (pre ++ n ∷ post) → IsNotIn n post
distinct_rest n [] post d = d.0
distinct_rest n (x ∷ pre) post d = distinct_rest n pre post d.1

out_is_open : (n : ℕ) (p : List ℕ) (e : PlainEntry) → e ≡ TaskEntry n p Out → piece_of e ≡ Open
out_is_open n p e h = ap piece_of h

-- ---- the entries of a split board

range_below : (n c m : ℕ) → n + c ≤ m → AreBelow m (range_with_len n c)
range_below n zero m l = tt
range_below n (suc c) m l = (omega (arith, l), range_below (n + 1) c m (omega (arith, l)))

below_inserted : (n c : ℕ) (xs ys : List ℕ) → AreBelow n (xs ++ ys)
    → AreBelow (n + c) (xs ++ (range_with_len n c ++ ys))
below_inserted n c xs ys a =
    let more = below_more n (n + c) (xs ++ ys) (omega arith) a in
    below_append (n + c) xs (range_with_len n c ++ ys) (below_left (n + c) xs ys more)
    (below_append (n + c) (range_with_len n c) ys (range_below n c (n + c) (omega arith))
    (below_right (n + c) xs ys more))

-- the entries, with others in the place of one
abbrev pub with_middle : List Slot → List ℕ → List PlainEntry → List ℕ → List PlainEntry
with_middle slots pre middle post = entries_of slots pre ++ (middle ++ entries_of slots post)

module _ (slots made : List Slot) (pre post : List ℕ) (n : ℕ) (p : List ℕ) (token : Token) (own c : ℕ)
    (at : entry_at slots n ≡ TaskEntry n p Out)
    (below : AreBelow (length slots) (pre ++ n ∷ post)) (distinct : AreDistinct (pre ++ n ∷ post))
    (apart : IsNotIn n pre)
    (children : entries_from (length slots) made ≡ children_from p 0 c (length slots)) where
  split_state : length (with_slot slots n (stored.Split token own c)) ≡ length slots
  split_state = length_with_slot slots n (stored.Split token own c)

  pub made_size : length made ≡ c
  made_size = sym (length_from (length slots) made) ∙ (ap length children ∙ length_children p 0 c (length slots))

  beside : (ks : List ℕ) → AreBelow (length slots) ks → IsNotIn n ks
      → entries_of (with_slot slots n (stored.Split token own c) ++ made) ks ≡ entries_of slots ks
  beside ks b a =
      entries_left (with_slot slots n (stored.Split token own c)) made ks
      (subst (λ k. AreBelow k ks) (sym split_state) b)
      ∙ put_beside slots n (stored.Split token own c) ks a

  own_entry : entry_at (with_slot slots n (stored.Split token own c) ++ made) n
      ≡ SplitEntry n p (plain_token token) own c
  own_entry =
      let inside : n < length slots = (below_right (length slots) pre (n ∷ post) below).0 in
      entry_left (with_slot slots n (stored.Split token own c)) made n (subst (λ k. n < k) (sym split_state) inside)
      ∙ put_at slots n (stored.Split token own c) p Out at

  new_children : entries_of (with_slot slots n (stored.Split token own c) ++ made) (range_with_len (length slots) c)
      ≡ children_from p 0 c (length slots)
  new_children =
      let xs = with_slot slots n (stored.Split token own c) in
      sym (ap₂ (λ k m. entries_of (xs ++ made) (range_with_len k m)) split_state made_size)
      ∙ (entries_right xs made ∙ (ap (λ k. entries_from k made) split_state ∙ children))

  pub new_is : entries_of (with_slot slots n (stored.Split token own c) ++ made)
      ((pre ++ n ∷ []) ++ (range_with_len (length slots) c ++ post))
      ≡ with_middle slots pre (SplitEntry n p (plain_token token) own c ∷ children_from p 0 c (length slots)) post
  new_is =
      let xs = with_slot slots n (stored.Split token own c) ++ made in
      let numbers = range_with_len (length slots) c in
      let low = beside pre (below_left (length slots) pre (n ∷ post) below) apart in
      let high = beside post (below_right (length slots) pre (n ∷ post) below).1 (distinct_rest n pre post distinct) in
      map-append (entry_at xs) (pre ++ n ∷ []) (numbers ++ post)
      ∙ (ap₂ (λ ds fs. ds ++ fs) (map-append (entry_at xs) pre (n ∷ []) ∙ ap₂ (λ es e. es ++ e ∷ []) low own_entry)
      (map-append (entry_at xs) numbers post ∙ ap₂ (λ ds fs. ds ++ fs) new_children high)
      ∙ append_assoc (entries_of slots pre) (SplitEntry n p (plain_token token) own c ∷ [])
      (children_from p 0 c (length slots) ++ entries_of slots post))

  pub old_is : entries_of slots (pre ++ n ∷ post) ≡ with_middle slots pre (TaskEntry n p Out ∷ []) post
  old_is = map-append (entry_at slots) pre (n ∷ post) ∙ ap (λ e. entries_of slots pre ++ e ∷ entries_of slots post) at

  pub divided_parts : length (entries_of slots (pre ++ n ∷ post)) ≡ length slots
      → divided (plain_token token) own c n (entries_of slots (pre ++ n ∷ post))
      ≡ with_middle slots pre (SplitEntry n p (plain_token token) own c ∷ children_from p 0 c (length slots)) post
  divided_parts size =
      let change = split_into (plain_token token) own c (length slots) in
      ap₂ (λ k es. at_first (is_out n) (split_into (plain_token token) own c k) es) size old_is
      ∙ (change_behind slots n change pre (TaskEntry n p Out ∷ entries_of slots post) apart
      ∙ ap (λ es. entries_of slots pre ++ es)
      (change_here n change (TaskEntry n p Out) (entries_of slots post) (rw (eq-eqb n n refl) refl)))

  pub waiting_old : waiting_tasks (entries_of slots (pre ++ n ∷ post)) ≡ waiting_tasks (entries_of slots pre)
      ++ waiting_tasks (entries_of slots post)
  waiting_old = ap waiting_tasks old_is
      ∙ waiting_append (entries_of slots pre) (TaskEntry n p Out ∷ entries_of slots post)

  pub waiting_new : waiting_tasks
      (with_middle slots pre (SplitEntry n p (plain_token token) own c ∷ children_from p 0 c (length slots)) post)
      ≡ waiting_tasks (entries_of slots pre)
      ++ (waiting_tasks (children_from p 0 c (length slots)) ++ waiting_tasks (entries_of slots post))
  waiting_new =
      waiting_append (entries_of slots pre)
      (SplitEntry n p (plain_token token) own c ∷ (children_from p 0 c (length slots) ++ entries_of slots post))
      ∙ ap (λ ts. waiting_tasks (entries_of slots pre) ++ ts)
      (waiting_append (children_from p 0 c (length slots)) (entries_of slots post))

  pub owed_split : owed (with_middle slots pre
      (SplitEntry n p (plain_token token) own c ∷ children_from p 0 c (length slots)) post) + 1
      ≡ owed (entries_of slots (pre ++ n ∷ post)) + 2 * c
  owed_split =
      let a = owed_append (entries_of slots pre)
      (SplitEntry n p (plain_token token) own c ∷ (children_from p 0 c (length slots) ++ entries_of slots post)) in
      let b = owed_append (children_from p 0 c (length slots)) (entries_of slots post) in
      let k = owed_children p 0 c (length slots) in
      let o = ap owed old_is ∙ owed_append (entries_of slots pre) (TaskEntry n p Out ∷ entries_of slots post) in
      omega (arith, a, b, k, o)

-- how many children were made
pub split_made : (slots : List Slot) (p : List ℕ) (c : ℕ) (made : List Slot)
    → entries_from (length slots) made ≡ children_from p 0 c (length slots) → length made ≡ c
split_made slots p c made children =
    sym (length_from (length slots) made) ∙ (ap length children ∙ length_children p 0 c (length slots))

length_waiting : (p : List ℕ) (k c n : ℕ) → length (waiting_tasks (children_from p k c n)) ≡ c
length_waiting p k zero n = refl
length_waiting p k (suc c) n = ap suc (length_waiting p (suc k) c (suc n))

pub split_tasks : (p : List ℕ) (c n : ℕ) → length (reverse (waiting_tasks (children_from p 0 c n))) ≡ c
split_tasks p c n = length-reverse (waiting_tasks (children_from p 0 c n)) ∙ length_waiting p 0 c n

module _ (tree : SearchTree) (budget : ℕ) (slots : List Slot) (order : List ℕ) (stack : List PlainTask) (len count : ℕ)
    (ended short : Bool)
    (history : List Event) (capacity : ℕ)
    (kept : IsKept tree budget slots order stack len count ended short history capacity) (n : ℕ) (p : List ℕ)
    (out : out_path n (entries_of slots order) ≡ Some p) where
  there : IsIn n order × (entry_at slots n ≡ TaskEntry n p Out)
  there = out_there slots order n p out

  front_is : AreRefuted (entries_of slots (take len order))
  front_is = subst AreRefuted (take-map (entry_at slots) len order) kept.front.known.refuted

  pub split_apart : IsNotIn n (take len order)
  split_apart = open_apart slots n (take len order) (out_is_open n p (entry_at slots n) there.1) front_is

  pub split_below : AreBelow (length slots) order
  split_below = below_order tree budget slots order
      (keeps_stored tree budget slots order short history kept.replays) kept.size

  -- the position of the task
  module _ (position : ℕ) (passed : IsNotIn n (take position order))
      (here : position < length order → get_or order position 0 ≡ n) where
    pub position_inside : position < length order
    position_inside = go (cases_lt position (length order))
      where
        go : (position < length order) ⊎ (length order ≤ position) → position < length order
        go (inl l) = l
        go (inr l) = absurd (not_in_no n order there.0 (subst (λ ns. IsNotIn n ns) (take_all position order l) passed))

    pub parts : order ≡ take position order ++ n ∷ drop (position + 1) order
    parts =
        sym (take-append-drop position order)
        ∙ (ap (λ ns. take position order ++ ns) (drop_more order position 0 position_inside)
        ∙ ap (λ k. take position order ++ k ∷ drop (position + 1) order) (here position_inside))

    pub front_parts : take (position + 1) order ≡ take position order ++ n ∷ []
    front_parts = take_more order position 0 position_inside
        ∙ ap (λ k. take position order ++ k ∷ []) (here position_inside)

    module _ (token : Token) (own c : ℕ) (made : List Slot)
        (children : entries_from (length slots) made ≡ children_from p 0 c (length slots)) where
      distinct_parts : AreDistinct (take position order ++ n ∷ drop (position + 1) order)
      distinct_parts = subst AreDistinct parts
          (distinct_order tree budget slots order (keeps_stored tree budget slots order short history kept.replays))

      below_parts : AreBelow (length slots) (take position order ++ n ∷ drop (position + 1) order)
      below_parts = subst (λ ns. AreBelow (length slots) ns) parts split_below

      entries_size : length (entries_of slots order) ≡ length slots
      entries_size = length-map order (entry_at slots) ∙ sym kept.size

      new_order : take (position + 1) order ++ (range_with_len (length slots) c ++ drop (position + 1) order)
          ≡ (take position order ++ n ∷ []) ++ (range_with_len (length slots) c ++ drop (position + 1) order)
      new_order = ap (λ ns. ns ++ (range_with_len (length slots) c ++ drop (position + 1) order)) front_parts

      new_entries : entries_of (with_slot slots n (stored.Split token own c) ++ made)
          (take (position + 1) order ++ (range_with_len (length slots) c ++ drop (position + 1) order))
          ≡ with_middle slots (take position order)
          (SplitEntry n p (plain_token token) own c ∷ children_from p 0 c (length slots)) (drop (position + 1) order)
      new_entries =
          ap (entries_of (with_slot slots n (stored.Split token own c) ++ made)) new_order
          ∙ new_is slots made (take position order) (drop (position + 1) order) n p token own c there.1 below_parts
          distinct_parts passed children

      pub split_entries : entries_of (with_slot slots n (stored.Split token own c) ++ made)
          (take (position + 1) order ++ (range_with_len (length slots) c ++ drop (position + 1) order))
          ≡ divided (plain_token token) own c n (entries_of slots order)
      split_entries =
          new_entries
          ∙ (sym (divided_parts slots made (take position order) (drop (position + 1) order) n p token own c there.1
          below_parts distinct_parts passed children
          (sym (ap (λ ns. length (entries_of slots ns)) parts) ∙ entries_size))
          ∙ ap (λ ns. divided (plain_token token) own c n (entries_of slots ns)) (sym parts))

      pub split_known : HasFrontTo budget
          (entries_of (with_slot slots n (stored.Split token own c) ++ made)
          (take (position + 1) order ++ (range_with_len (length slots) c ++ drop (position + 1) order)))
          len count ended
      split_known =
          subst (λ es. HasFrontTo budget es len count ended) (sym split_entries)
          (front_known (is_out n) (split_into (plain_token token) own c (length (entries_of slots order))) (out_open n)
          budget (entries_of slots order) len count ended kept.front)

      pub split_size : length (with_slot slots n (stored.Split token own c) ++ made)
          ≡ length (take (position + 1) order ++ (range_with_len (length slots) c ++ drop (position + 1) order))
      split_size =
          let xs = with_slot slots n (stored.Split token own c) in
          let a = length-append xs made in
          let b = length_with_slot slots n (stored.Split token own c) in
          let m = sym (length_from (length slots) made) ∙ (ap length children ∙ length_children p 0 c (length slots)) in
          let d = length-append (take (position + 1) order)
          (range_with_len (length slots) c ++ drop (position + 1) order) in
          let e = length-append (range_with_len (length slots) c) (drop (position + 1) order) in
          let f = length-range_with_len (length slots) c in
          let h = sym (length-append (take (position + 1) order) (drop (position + 1) order))
          ∙ ap length (take-append-drop (position + 1) order) in
          let k = kept.size in
          omega (arith, a, b, m, d, e, f, h, k)

      pub split_new_below : AreBelow (length (with_slot slots n (stored.Split token own c) ++ made))
          (take (position + 1) order ++ (range_with_len (length slots) c ++ drop (position + 1) order))
      split_new_below =
          let old = subst (λ ns. AreBelow (length slots) ns) (sym (take-append-drop (position + 1) order))
          split_below in
          let a = length-append (with_slot slots n (stored.Split token own c)) made in
          let b = length_with_slot slots n (stored.Split token own c) in
          let m = split_made slots p c made children in
          let size : length (with_slot slots n (stored.Split token own c) ++ made) ≡ length slots + c =
          omega (arith, a, b, m) in
          subst (λ k. AreBelow k (take (position + 1) order
          ++ (range_with_len (length slots) c ++ drop (position + 1) order))) (sym size)
          (below_inserted (length slots) c (take (position + 1) order) (drop (position + 1) order) old)

      pub split_count : length (take (position + 1) order
          ++ (range_with_len (length slots) c ++ drop (position + 1) order)) ≡ length order + c
      split_count =
          let d = length-append (take (position + 1) order)
          (range_with_len (length slots) c ++ drop (position + 1) order) in
          let e = length-append (range_with_len (length slots) c) (drop (position + 1) order) in
          let f = length-range_with_len (length slots) c in
          let h = sym (length-append (take (position + 1) order) (drop (position + 1) order))
          ∙ ap length (take-append-drop (position + 1) order) in
          omega (arith, d, e, f, h)

      module _ (right : IfSome (node_at (Some tree) p)
          (λ node. node_view node ≡ Splits (plain_token token) own c)) where
        pub split_step : Divides tree (stored_state slots order short) n
            (stored_state (with_slot slots n (stored.Split token own c) ++ made)
            (take (position + 1) order ++ (range_with_len (length slots) c ++ drop (position + 1) order)) short)
        split_step = go (node_at (Some tree) p) refl
            (out_reached tree budget (entries_of slots order) n p out kept.right).there right
          where
            go : (o : Option SearchTree) → node_at (Some tree) p ≡ o → IsSome o
                → IfSome o (λ node. node_view node ≡ Splits (plain_token token) own c)
                → Divides tree (stored_state slots order short) n
                (stored_state (with_slot slots n (stored.Split token own c) ++ made)
                (take (position + 1) order ++ (range_with_len (length slots) c ++ drop (position + 1) order)) short)
            go None e f h = absurd (true≢false (sym f))
            go (Some node) e f h = record {
              path = p;
              handed = out;
              node = node;
              there = e;
              token = plain_token token;
              own = own;
              children = c;
              told = h;
              after = ap (λ es. record { entries = es; is_short = short }) split_entries;
            }

        module _ (new_stack : List PlainTask) (new_capacity : ℕ)
            (stacked : new_stack ≡ take (length stack - length
            (waiting_tasks (entries_of slots (take position order)))) stack
            ++ (reverse (waiting_tasks (children_from p 0 c (length slots)))
            ++ drop (length stack - length (waiting_tasks (entries_of slots (take position order)))) stack))
            (roomy : 2 * (length order + c) + 1 ≤ new_capacity) where
          pub split_kept : (new_len new_count : ℕ) (new_ended : Bool)
              → IsFront budget (entries_of (with_slot slots n (stored.Split token own c) ++ made)
              (take (position + 1) order ++ (range_with_len (length slots) c ++ drop (position + 1) order)))
              new_len new_count new_ended
              → IsKept tree budget (with_slot slots n (stored.Split token own c) ++ made)
              (take (position + 1) order ++ (range_with_len (length slots) c ++ drop (position + 1) order)) new_stack
              new_len new_count new_ended short (history ++ event.Split n ∷ []) new_capacity
          split_kept new_len new_count new_ended front =
              let s = split_step in
              let replays = replay_more tree budget history (event.Split n) (stored_state slots order short)
              (stored_state (with_slot slots n (stored.Split token own c) ++ made)
              (take (position + 1) order ++ (range_with_len (length slots) c ++ drop (position + 1) order)) short)
              kept.replays
              (ap (λ es. record { entries = es; is_short = short })
              (sym (divided_is tree n s.path s.node s.token s.own s.children (entries_of slots order) s.handed s.there
              s.told)) ∙ sym s.after) in
              record {
                replays = replays;
                apart = apart_stored tree budget (with_slot slots n (stored.Split token own c) ++ made)
                    (take (position + 1) order ++ (range_with_len (length slots) c ++ drop (position + 1) order)) short
                    (history ++ event.Split n ∷ []) replays;
                right = (keeps_stored tree budget (with_slot slots n (stored.Split token own c) ++ made)
                    (take (position + 1) order ++ (range_with_len (length slots) c ++ drop (position + 1) order)) short
                    (history ++ event.Split n ∷ []) replays).right;
                size = split_size;
                all = every;
                stacked = stacked ∙ new_waiting;
                front = front;
                owes = balance;
                room = subst (λ k. 2 * k + 1 ≤ new_capacity) (sym split_count) roomy;
              }
            where
              new_waiting : take (length stack - length (waiting_tasks (entries_of slots (take position order)))) stack
                  ++ (reverse (waiting_tasks (children_from p 0 c (length slots)))
                  ++ drop (length stack - length (waiting_tasks (entries_of slots (take position order)))) stack)
                  ≡ reverse (waiting_tasks (entries_of (with_slot slots n (stored.Split token own c) ++ made)
                  (take (position + 1) order ++ (range_with_len (length slots) c ++ drop (position + 1) order))))
              new_waiting =
                  let low = waiting_tasks (entries_of slots (take position order)) in
                  let high = waiting_tasks (entries_of slots (drop (position + 1) order)) in
                  let old = waiting_old slots made (take position order) (drop (position + 1) order) n p token own c
                  there.1 below_parts distinct_parts passed children in
                  let new = waiting_new slots made (take position order) (drop (position + 1) order) n p token own c
                  there.1 below_parts distinct_parts passed children in
                  stack_inserted low (waiting_tasks (children_from p 0 c (length slots))) high stack
                  (length stack - length low)
                  (kept.stacked ∙ (ap (λ ns. reverse (waiting_tasks (entries_of slots ns))) parts
                  ∙ ap reverse old)) refl
                  ∙ ap reverse (sym (ap waiting_tasks new_entries ∙ new))

              balance : length (history ++ event.Split n ∷ [])
                  + (owed (entries_of (with_slot slots n (stored.Split token own c) ++ made)
                  (take (position + 1) order ++ (range_with_len (length slots) c ++ drop (position + 1) order)))
                  + owed_short short)
                  ≡ 2 * length (take (position + 1) order
                  ++ (range_with_len (length slots) c ++ drop (position + 1) order)) + 1
              balance =
                  let a = owed_split slots made (take position order) (drop (position + 1) order) n p token own c
                  there.1 below_parts distinct_parts passed children in
                  let b = ap owed new_entries in
                  let d = ap (λ ns. owed (entries_of slots ns)) parts in
                  let e = kept.owes in
                  let f = length_push history (event.Split n) in
                  let h = split_count in
                  omega (arith, a, b, d, e, f, h)

              every : (k : ℕ) → k < length (take (position + 1) order
                  ++ (range_with_len (length slots) c ++ drop (position + 1) order))
                  → IsIn k (take (position + 1) order ++ (range_with_len (length slots) c ++ drop (position + 1) order))
              every k l = go (cases_lt k (length order))
                where
                  go : (k < length order) ⊎ (length order ≤ k)
                      → IsIn k (take (position + 1) order
                      ++ (range_with_len (length slots) c ++ drop (position + 1) order))
                  go (inl m) = in_insert k (take (position + 1) order) (range_with_len (length slots) c)
                      (drop (position + 1) order)
                      (subst (λ ns. IsIn k ns) (sym (take-append-drop (position + 1) order)) (kept.all k m))
                  go (inr m) = in_middle k (take (position + 1) order) (range_with_len (length slots) c)
                      (drop (position + 1) order)
                      (let e = kept.size in let f = split_count in
                      in_range k (length slots) c (omega (arith, m, e)) (omega (arith, l, e, f)))
