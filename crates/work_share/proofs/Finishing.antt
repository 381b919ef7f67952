-- A task is done.
use Rattle.std.proofs.Common.{◌≡◌, ℕ, ◌<◌, inl, inr, refl, sym, ap, ◌∙◌, subst, arith, List, [], ◌∷◌, ◌++◌, length}
use Rattle.std.proofs.Common.{reverse, Option, Some, None, Bool, true, false, if◌then◌else◌, IsSome, IfSome}
use Rattle.std.proofs.lemmas.Bool.{true≢false}
use Rattle.std.proofs.lemmas.List.{length_push}
use Rattle.tree_terms.specs.Trees.{SearchTree, Verdict, PlainOutcome, Past, count_of, outcome, node_at}
use Rattle.tree_terms.specs.Paths.{IsReachable, outcome_at, outcome_of}
use Rattle.work_share.specs.declared.Event.{Event}
use Rattle.work_share.specs.declared.Event.TheVariants as event
use Rattle.work_share.specs.Board.{PlainEntry, TaskEntry, PlainTask, Out, Done, with_state, is_out, entry_number}
use Rattle.work_share.specs.Board.{entry_path, out_path}
use Rattle.work_share.specs.Steps.{finished, outcome_given, Finishes}
use Rattle.work_share.specs.Kept.{AreBelow, IsOutcomeOf, AreTasksRight}
use Rattle.work_share.proofs.Changes.{right_tail}
use Rattle.work_share.proofs.Outs.{out_is, same_path}
use Rattle.work_share.proofs.Calls.{finished_is}
use Rattle.proof_tree.specs.declared.outcome.Outcome.{Outcome}
use Rattle.work_share.specs.Outcomes.{plain_outcome}
use Rattle.work_share.specs.declared.slot.Slot.{Slot}
use Rattle.work_share.specs.declared.slot.SlotState.TheVariants as stored
use Rattle.work_share.specs.Tasks.{is_past}
use Rattle.work_share.specs.Slots.{entry_at, entries_of, with_slot}
use Rattle.work_share.specs.Fronts.{IsFront, HasFrontTo}
use Rattle.work_share.specs.Boards.{stored_state, waiting_tasks, owed, IsIn, IsKept}
use Rattle.work_share.proofs.Stored.{length_with_slot, put_at, put_in}
use Rattle.work_share.proofs.Advance.{out_open, front_known}
use Rattle.work_share.proofs.Standing.{in_below, out_there, finished_rest, is_out_task}
use Rattle.work_share.proofs.Kept.{keeps_stored, apart_stored, distinct_order, below_order, replay_more}

out_number_of : (n : ℕ) (e : PlainEntry) → is_out n e ≡ true → entry_number e ≡ n
out_number_of n e h = ap entry_number (out_is n e h).1

-- the path of a task that is out may be reached
pub out_reached : (tree : SearchTree) (budget : ℕ) (es : List PlainEntry) (n : ℕ) (p : List ℕ) → out_path n es ≡ Some p
    → AreTasksRight tree budget es
    → IsReachable tree p
out_reached tree budget [] n p h a = absurd (cc h)
out_reached tree budget (e ∷ es) n p h a =
    elim (is_out n e) as (λ b. is_out n e ≡ b → (if b then entry_path e else out_path n es) ≡ Some p
    → IsReachable tree p) [
      | true ↦ λ f g.
          let at = out_is n e f in
          let path : at.0 ≡ p = same_path at.0 p (sym (ap entry_path at.1) ∙ g) in
          let right : AreTasksRight tree budget (TaskEntry n p Out ∷ es) =
          subst (λ x. AreTasksRight tree budget (x ∷ es)) (at.1 ∙ ap (λ q. TaskEntry n q Out) path) a in
          right.0.0
      | false ↦ λ _ g. out_reached tree budget es n p g (right_tail tree budget e es a)
    ] refl h

-- what is known of the outcome there
pub record IsGiven (tree : SearchTree) (budget : ℕ) (p : List ℕ) (o : PlainOutcome) : Type 0 where
  pub verdict : Verdict
  pub there : outcome_at tree p ≡ Some verdict
  pub is : IsOutcomeOf budget verdict o

pub given_there : (tree : SearchTree) (budget : ℕ) (p : List ℕ) (o : PlainOutcome) → IsReachable tree p
    → IfSome (outcome_at tree p) (λ verdict. IsOutcomeOf budget verdict o) → IsGiven tree budget p o
given_there tree budget p o r h = go (node_at (Some tree) p) refl r.there
  where
    go : (x : Option SearchTree) → node_at (Some tree) p ≡ x → IsSome x → IsGiven tree budget p o
    go None e f = absurd (true≢false (sym f))
    go (Some node) e f = record {
      verdict = outcome node;
      there = ap outcome_of e;
      is = subst (λ (v : Option Verdict). IfSome v (λ verdict. IsOutcomeOf budget verdict o)) (ap outcome_of e) h;
    }

pub given_is : (budget : ℕ) (verdict : Verdict) (o : PlainOutcome) → IsOutcomeOf budget verdict o
    → outcome_given (is_past o) verdict ≡ o
given_is budget verdict o (inl e) = ap (λ x. outcome_given (is_past x) verdict) e ∙ sym e
given_is budget verdict o (inr h) = ap (λ x. outcome_given (is_past x) verdict) h.0 ∙ sym h.0

pub given_above : (budget : ℕ) (verdict : Verdict) (o : PlainOutcome) → IsOutcomeOf budget verdict o → is_past o ≡ true
    → budget < count_of verdict
given_above budget verdict o (inl e) p = absurd (true≢false (sym p ∙ ap is_past e))
given_above budget verdict o (inr h) p = h.1

module _ (tree : SearchTree) (budget : ℕ) (slots : List Slot) (order : List ℕ) (stack : List PlainTask) (len count : ℕ)
    (ended short : Bool)
    (history : List Event) (capacity : ℕ)
    (kept : IsKept tree budget slots order stack len count ended short history capacity) (n : ℕ) (p : List ℕ)
    (out : out_path n (entries_of slots order) ≡ Some p) where
  there : IsIn n order × (entry_at slots n ≡ TaskEntry n p Out)
  there = out_there slots order n p out

  pub out_inside : n < length slots
  out_inside =
      let keeps = keeps_stored tree budget slots order short history kept.replays in
      in_below (length slots) n order (below_order tree budget slots order keeps kept.size) there.0

  pub finish_entries : (o : Outcome) → entries_of (with_slot slots n (stored.Done o)) order
      ≡ finished (plain_outcome o) n (entries_of slots order)
  finish_entries o =
      let keeps = keeps_stored tree budget slots order short history kept.replays in
      let here = there.1 in
      put_in slots n (stored.Done o) (is_out n) (λ e. with_state (Done (plain_outcome o)) e ∷ []) (out_number_of n)
      (ap (is_out n) here ∙ is_out_task n p)
      (ap (λ e. with_state (Done (plain_outcome o)) e ∷ []) here
      ∙ sym (ap (λ e. e ∷ []) (put_at slots n (stored.Done o) p Out here)))
      order (distinct_order tree budget slots order keeps)

  pub out_room : length history < capacity
  out_room =
      let left = finished_rest (entries_of slots order) Past n p out in
      let l = left.1 in
      let old = kept.owes in
      let room = kept.room in
      omega (arith, l, old, room)

  pub finish_below : (o : Outcome) → AreBelow (length (with_slot slots n (stored.Done o))) order
  finish_below o =
      let keeps = keeps_stored tree budget slots order short history kept.replays in
      subst (λ k. AreBelow k order) (sym (length_with_slot slots n (stored.Done o)))
      (below_order tree budget slots order keeps kept.size)

  pub finish_known : (o : Outcome)
      → HasFrontTo budget (entries_of (with_slot slots n (stored.Done o)) order) len count ended
  finish_known o =
      subst (λ es. HasFrontTo budget es len count ended) (sym (finish_entries o))
      (front_known (is_out n) (λ e. with_state (Done (plain_outcome o)) e ∷ []) (out_open n) budget
      (entries_of slots order) len count ended kept.front)

  module _ (o : Outcome) (right : IfSome (outcome_at tree p)
      (λ verdict. IsOutcomeOf budget verdict (plain_outcome o))) where
    given : IsGiven tree budget p (plain_outcome o)
    given = given_there tree budget p (plain_outcome o)
        (out_reached tree budget (entries_of slots order) n p out kept.right) right

    pub finish_step : Finishes tree budget (stored_state slots order short) n (is_past (plain_outcome o))
        (stored_state (with_slot slots n (stored.Done o)) order short)
    finish_step = record {
      path = p;
      handed = out;
      verdict = given.verdict;
      there = given.there;
      above = given_above budget given.verdict (plain_outcome o) given.is;
      after = ap (λ es. record { entries = es; is_short = short })
          (finish_entries o ∙ ap (λ x. finished x n (entries_of slots order))
          (sym (given_is budget given.verdict (plain_outcome o) given.is)));
    }

    pub finish_kept : (new_len new_count : ℕ) (new_ended : Bool)
        → IsFront budget (entries_of (with_slot slots n (stored.Done o)) order) new_len new_count new_ended
        → IsKept tree budget (with_slot slots n (stored.Done o)) order stack new_len new_count new_ended short
        (history ++ event.Finish n (is_past (plain_outcome o)) ∷ []) capacity
    finish_kept new_len new_count new_ended front =
        let es = entries_of slots order in
        let past = is_past (plain_outcome o) in
        let left = finished_rest es (plain_outcome o) n p out in
        let entries = finish_entries o in
        let same = sym (finished_is tree budget n past p given.verdict es out given.there
        (given_above budget given.verdict (plain_outcome o) given.is))
        ∙ ap (λ x. finished x n es) (given_is budget given.verdict (plain_outcome o) given.is) in
        let replays = replay_more tree budget history (event.Finish n past) (stored_state slots order short)
        (stored_state (with_slot slots n (stored.Done o)) order short) kept.replays
        (ap (λ xs. record { entries = xs; is_short = short }) (same ∙ sym entries)) in
        record {
          replays = replays;
          apart = apart_stored tree budget (with_slot slots n (stored.Done o)) order short
              (history ++ event.Finish n past ∷ []) replays;
          right = (keeps_stored tree budget (with_slot slots n (stored.Done o)) order short
              (history ++ event.Finish n past ∷ []) replays).right;
          size = length_with_slot slots n (stored.Done o) ∙ kept.size;
          all = kept.all;
          stacked = kept.stacked ∙ sym (ap (λ xs. reverse (waiting_tasks xs)) entries ∙ ap reverse left.0);
          front = front;
          owes =
              let l = left.1 in
              let e = ap owed entries in
              let old = kept.owes in
              let more = length_push history (event.Finish n past) in
              omega (arith, l, e, old, more);
          room = kept.room;
        }
