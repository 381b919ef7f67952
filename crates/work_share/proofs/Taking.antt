-- A task is handed out.
use Rattle.std.proofs.Common.{◌≡◌, ℕ, ◌<◌, refl, sym, ap, ◌∙◌, subst, arith, List, [], ◌∷◌, ◌++◌, length, reverse, Some}
use Rattle.std.proofs.Common.{Bool, true, false, if◌then◌else◌, ◌==◌, option_to_list}
use Rattle.std.proofs.lemmas.Bool.{true≢false, eqb-true, eq-eqb}
use Rattle.std.proofs.lemmas.List.{length_push, reverse-reverse}
use Rattle.tree_terms.specs.Trees.{SearchTree}
use Rattle.tree_terms.specs.Paths.{IsReachable}
use Rattle.work_share.specs.declared.Event.{Event}
use Rattle.work_share.specs.declared.Event.TheVariants as event
use Rattle.work_share.specs.Board.{PlainEntry, SplitEntry, TaskEntry, PlainTask, Waits, Out as PlainOut, with_state}
use Rattle.work_share.specs.Board.{waits, task_of, waits_as, state_waits, entry_number, first_waiting, out_path}
use Rattle.work_share.specs.Steps.{handed_out}
use Rattle.work_share.specs.Kept.{AreTasksRight}
use Rattle.work_share.proofs.Changes.{right_tail}
use Rattle.work_share.specs.declared.slot.Slot.{Slot}
use Rattle.work_share.specs.declared.slot.SlotState.TheVariants.{Out}
use Rattle.work_share.specs.declared.slot.Piece.TheVariants.{Open}
use Rattle.work_share.specs.Slots.{entry_at, entries_of, with_slot}
use Rattle.work_share.specs.Fronts.{piece_of, IsFront}
use Rattle.work_share.specs.Boards.{stored_state, waiting_tasks, owed, IsIn, IsKept}
use Rattle.work_share.proofs.Stored.{length_with_slot, put_at, put_in}
use Rattle.work_share.proofs.Advance.{waits_open, front_same}
use Rattle.work_share.proofs.Standing.{in_below, waiting_there, first_entry, first_is, taken_rest, out_found}
use Rattle.work_share.proofs.Kept.{keeps_stored, apart_stored, distinct_order, below_order, replay_more, stack_top}

waits_number : (n : ℕ) (e : PlainEntry) → waits_as n e ≡ true → entry_number e ≡ n
waits_number n (SplitEntry number path token own children) h = absurd (true≢false (sym h))
waits_number n (TaskEntry number path state) h = go (number == n) refl h
  where
    go : (b : Bool) → (number == n) ≡ b → (if b then state_waits state else false) ≡ true → number ≡ n
    go true e f = eqb-true number n e
    go false e f = absurd (true≢false (sym f))

-- what comes in the place of a task that waits isn't finished either
out_opens : (n : ℕ) (e : PlainEntry) → waits_as n e ≡ true → (x : PlainEntry) × (xs : List PlainEntry)
    × (with_state PlainOut e ∷ [] ≡ x ∷ xs) × (piece_of x ≡ Open)
out_opens n (SplitEntry number path token own children) h = absurd (true≢false (sym h))
out_opens n (TaskEntry number path state) h = (TaskEntry number path PlainOut, [], refl, refl)

-- the path of a task that waits may be reached
first_reached : (e : PlainEntry) (t : PlainTask) (tree : SearchTree) (budget : ℕ) (es : List PlainEntry)
    → e ≡ TaskEntry t.number t.path Waits
    → AreTasksRight tree budget (e ∷ es) → IsReachable tree t.path
first_reached e t tree budget es is a =
    let right : AreTasksRight tree budget (TaskEntry t.number t.path Waits ∷ es) =
    subst (λ x. AreTasksRight tree budget (x ∷ es)) is a in
    right.0.0

waiting_reached : (tree : SearchTree) (budget : ℕ) (es : List PlainEntry) (t : PlainTask) (ts : List PlainTask)
    → waiting_tasks es ≡ t ∷ ts
    → AreTasksRight tree budget es → IsReachable tree t.path
waiting_reached tree budget [] t ts h a = absurd (cc h)
waiting_reached tree budget (e ∷ es) t ts h a =
    elim (waits e) as (λ b. waits e ≡ b → (if b then option_to_list (task_of e) else []) ++ waiting_tasks es ≡ t ∷ ts
    → IsReachable tree t.path) [
      | true ↦ λ w g. first_reached e t tree budget es (first_entry e (waiting_tasks es) ts t w g).0 a
      | false ↦ λ _ g. waiting_reached tree budget es t ts g (right_tail tree budget e es a)
    ] refl h

module _ (tree : SearchTree) (budget : ℕ) (slots : List Slot) (order : List ℕ) (stack rest : List PlainTask)
    (len count : ℕ) (ended short : Bool)
    (history : List Event) (capacity : ℕ)
    (kept : IsKept tree budget slots order stack len count ended short history capacity) (task : PlainTask)
    (popped : stack ≡ rest ++ task ∷ []) where
  waiting_is : waiting_tasks (entries_of slots order) ≡ task ∷ reverse rest
  waiting_is = stack_top (waiting_tasks (entries_of slots order)) rest task (sym popped ∙ kept.stacked)

  there : IsIn task.number order × (entry_at slots task.number ≡ TaskEntry task.number task.path Waits)
  there = waiting_there slots order task (reverse rest) waiting_is

  pub take_inside : task.number < length slots
  take_inside =
      let keeps = keeps_stored tree budget slots order short history kept.replays in
      in_below (length slots) task.number order (below_order tree budget slots order keeps kept.size) there.0

  pub take_first : first_waiting (entries_of slots order) ≡ Some task
  take_first = first_is (entries_of slots order) task (reverse rest) waiting_is

  pub take_entries : entries_of (with_slot slots task.number Out) order
      ≡ handed_out task.number (entries_of slots order)
  take_entries =
      let keeps = keeps_stored tree budget slots order short history kept.replays in
      let here = there.1 in
      put_in slots task.number Out (waits_as task.number) (λ e. with_state PlainOut e ∷ []) (waits_number task.number)
      (ap (waits_as task.number) here ∙ waits_self)
      (ap (λ e. with_state PlainOut e ∷ []) here
      ∙ sym (ap (λ e. e ∷ []) (put_at slots task.number Out task.path Waits here)))
      order (distinct_order tree budget slots order keeps)
    where
      waits_self : waits_as task.number (TaskEntry task.number task.path Waits) ≡ true
      waits_self = rw (eq-eqb task.number task.number refl) refl

  pub take_out : out_path task.number (entries_of (with_slot slots task.number Out) order) ≡ Some task.path
  take_out = out_found (with_slot slots task.number Out) order task.number task.path there.0
      (put_at slots task.number Out task.path Waits there.1)

  pub take_kept : IsKept tree budget (with_slot slots task.number Out) order rest len count ended short
      (history ++ event.Take task.number ∷ []) capacity
  take_kept =
      let left = taken_rest (entries_of slots order) task (reverse rest) waiting_is in
      let replays : _ ≡ stored_state (with_slot slots task.number Out) order short =
      replay_more tree budget history (event.Take task.number) (stored_state slots order short)
      (stored_state (with_slot slots task.number Out) order short) kept.replays
      (ap (λ es. record { entries = es; is_short = short }) (sym take_entries)) in
      record {
        replays = replays;
        apart = apart_stored tree budget (with_slot slots task.number Out) order short
            (history ++ event.Take task.number ∷ []) replays;
        right = (keeps_stored tree budget (with_slot slots task.number Out) order short
            (history ++ event.Take task.number ∷ []) replays).right;
        size = length_with_slot slots task.number Out ∙ kept.size;
        all = kept.all;
        stacked = sym (ap (λ es. reverse (waiting_tasks es)) take_entries ∙ (ap reverse left.0 ∙ reverse-reverse rest));
        front = subst (λ es. IsFront budget es len count ended) (sym take_entries)
            (front_same (waits_as task.number) (λ e. with_state PlainOut e ∷ []) (waits_open task.number)
            (out_opens task.number) budget (entries_of slots order) len count ended kept.front);
        owes =
            let o = left.1 in
            let n = ap owed take_entries in
            let old = kept.owes in
            let more = length_push history (event.Take task.number) in
            omega (arith, o, n, old, more);
        room = kept.room;
      }

  pub take_path : IsReachable tree task.path
  take_path = waiting_reached tree budget (entries_of slots order) task (reverse rest) waiting_is kept.right
