-- What a kept board knows of its order, and how its history goes on.
use Rattle.std.proofs.Common.{◌≡◌, ℕ, ◌≤◌, sym, ap, ◌∙◌, subst, arith, List, [], ◌∷◌, ◌++◌, length, reverse, Bool}
use Rattle.std.proofs.lemmas.List.{length-map, reverse-append, reverse-reverse}
use Rattle.std.proofs.lemmas.List.Sums.{fold-append}
use Rattle.tree_terms.specs.Trees.{SearchTree}
use Rattle.work_share.specs.declared.Event.{Event}
use Rattle.work_share.specs.Board.{BoardState, board_start, PlainTask}
use Rattle.work_share.specs.Replay.{happens, replay}
use Rattle.work_share.specs.Kept.{AreDistinct, AreBelow, OutsAreApart, AreTasksRight}
use Rattle.work_share.proofs.Outs.{outs_apart}
use Rattle.work_share.proofs.Replays.{Keeps, keeps_replay}
use Rattle.work_share.specs.declared.slot.Slot.{Slot}
use Rattle.work_share.specs.Slots.{entry_at, entries_of}
use Rattle.work_share.specs.Fronts.{IsFront}
use Rattle.work_share.specs.Boards.{stored_state, waiting_tasks, owed, IsKept}
use Rattle.work_share.proofs.Stored.{numbers_are}

pub keeps_stored : (tree : SearchTree) (budget : ℕ) (slots : List Slot) (order : List ℕ) (short : Bool)
    (history : List Event)
    → replay tree budget history ≡ stored_state slots order short → Keeps tree budget (entries_of slots order)
keeps_stored tree budget slots order short history e =
    subst (λ (b : BoardState). Keeps tree budget b.entries) e (keeps_replay tree budget history)

-- the two facts of the type that follow from the history
pub apart_stored : (tree : SearchTree) (budget : ℕ) (slots : List Slot) (order : List ℕ) (short : Bool)
    (history : List Event)
    → replay tree budget history ≡ stored_state slots order short → OutsAreApart (entries_of slots order)
apart_stored tree budget slots order short history e =
    outs_apart (entries_of slots order) (keeps_stored tree budget slots order short history e).order

pub distinct_order : (tree : SearchTree) (budget : ℕ) (slots : List Slot) (order : List ℕ)
    → Keeps tree budget (entries_of slots order) → AreDistinct order
distinct_order tree budget slots order k = subst AreDistinct (numbers_are slots order) k.numbers

pub below_order : (tree : SearchTree) (budget : ℕ) (slots : List Slot) (order : List ℕ)
    → Keeps tree budget (entries_of slots order)
    → length slots ≡ length order → AreBelow (length slots) order
below_order tree budget slots order k size =
    subst (λ n. AreBelow n order) (length-map order (entry_at slots) ∙ sym size)
    (subst (λ ns. AreBelow (length (entries_of slots order)) ns) (numbers_are slots order) k.below)

pub replay_more : (tree : SearchTree) (budget : ℕ) (history : List Event) (event : Event) (old new : BoardState)
    → replay tree budget history ≡ old
    → happens tree budget old event ≡ new → replay tree budget (history ++ event ∷ []) ≡ new
replay_more tree budget history event old new e h =
    fold-append (happens tree budget) board_start history (event ∷ [])
    ∙ (ap (λ (b : BoardState). happens tree budget b event) e ∙ h)

-- the stack, with the leftmost task on top
pub stack_top : (waiting rest : List PlainTask) (task : PlainTask) → rest ++ task ∷ [] ≡ reverse waiting
    → waiting ≡ task ∷ reverse rest
stack_top waiting rest task e = sym (reverse-reverse waiting) ∙ (ap reverse (sym e) ∙ reverse-append rest (task ∷ []))

-- more room
pub kept_roomier : (tree : SearchTree) (budget : ℕ) (slots : List Slot) (order : List ℕ) (stack : List PlainTask)
    (len count : ℕ) (ended short : Bool)
    (history : List Event) (capacity more : ℕ)
    → IsKept tree budget slots order stack len count ended short history capacity → capacity ≤ more
    → IsKept tree budget slots order stack len count ended short history more
kept_roomier tree budget slots order stack len count ended short history capacity more k l = record {
  replays = k.replays;
  apart = k.apart;
  right = k.right;
  size = k.size;
  all = k.all;
  stacked = k.stacked;
  front = k.front;
  owes = k.owes;
  room = let r = k.room in omega (arith, r, l);
}

-- slots that stand for the same entries
pub kept_same : (tree : SearchTree) (budget : ℕ) (slots others : List Slot) (order : List ℕ) (stack : List PlainTask)
    (len count : ℕ) (ended short : Bool)
    (history : List Event) (capacity : ℕ) → IsKept tree budget slots order stack len count ended short history capacity
    → entries_of others order ≡ entries_of slots order → length others ≡ length slots
    → IsKept tree budget others order stack len count ended short history capacity
kept_same tree budget slots others order stack len count ended short history capacity k e l = record {
  replays = k.replays ∙ ap (λ es. record { entries = es; is_short = short }) (sym e);
  apart = subst OutsAreApart (sym e) k.apart;
  right = subst (AreTasksRight tree budget) (sym e) k.right;
  size = l ∙ k.size;
  all = k.all;
  stacked = k.stacked ∙ ap (λ es. reverse (waiting_tasks es)) (sym e);
  front = subst (λ es. IsFront budget es len count ended) (sym e) k.front;
  owes = let o = ap owed e in let old = k.owes in omega (arith, o, old);
  room = k.room;
}

-- an order that is the same
pub kept_ordered : (tree : SearchTree) (budget : ℕ) (slots : List Slot) (order others : List ℕ)
    (stack : List PlainTask) (len count : ℕ) (ended short : Bool)
    (history : List Event) (capacity : ℕ) → IsKept tree budget slots order stack len count ended short history capacity
    → others ≡ order
    → IsKept tree budget slots others stack len count ended short history capacity
kept_ordered tree budget slots order others stack len count ended short history capacity k e =
    subst (λ ns. IsKept tree budget slots ns stack len count ended short history capacity) (sym e) k
