-- Whether a task is out, read at its number.
use Rattle.std.proofs.Common.{◌≡◌, ℕ, ◌≤◌, sym, ap, ◌∙◌, arith, List, length, Some, Bool, true, false, MatchBool}
use Rattle.std.specs.Prelude.{slice_get}
use Rattle.std.proofs.lemmas.Option.{slice_get_within}
use Rattle.tree_terms.specs.Trees.{SearchTree}
use Rattle.work_share.specs.declared.Event.{Event}
use Rattle.work_share.specs.Board.{PlainTask, TaskEntry, Out, out_path}
use Rattle.work_share.specs.declared.slot.Slot.{Slot}
use Rattle.work_share.specs.Slots.{entry_of, entry_or, entries_of}
use Rattle.work_share.specs.Boards.{IsKept}
use Rattle.work_share.proofs.Standing.{out_there, out_found}
use Rattle.work_share.proofs.Finishing.{out_inside}

module _ (tree : SearchTree) (budget : ℕ) (slots : List Slot) (order : List ℕ) (stack : List PlainTask) (len count : ℕ)
    (ended short : Bool)
    (history : List Event) (capacity : ℕ)
    (kept : IsKept tree budget slots order stack len count ended short history capacity) (n : ℕ) (p : List ℕ) where
  pub read_out : (slot : Slot) (b : Bool) → slice_get slots n ≡ Some slot
      → MatchBool b (entry_of n slot ≡ TaskEntry n p Out) (¬ (entry_of n slot ≡ TaskEntry n p Out))
      → MatchBool b (out_path n (entries_of slots order) ≡ Some p) (¬ (out_path n (entries_of slots order) ≡ Some p))
  read_out slot true e h =
      let inside = slice_get_within slots n slot e in
      let size = kept.size in
      out_found slots order n p (kept.all n (omega (arith, inside, size))) (ap (entry_or n) e ∙ h)
  read_out slot false e h = λ out. h (sym (ap (entry_or n) e) ∙ (out_there slots order n p out).1)

  pub none_out : length slots ≤ n → ¬ (out_path n (entries_of slots order) ≡ Some p)
  none_out l out =
      let inside = out_inside tree budget slots order stack len count ended short history capacity kept n p out in
      absurd (omega (arith, l, inside))
