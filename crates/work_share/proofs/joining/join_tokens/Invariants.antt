use Rattle.std.proofs.Common.{◌≡◌, ◌++◌, ℕ, length, drop}
use Rattle.std.specs.Prelude.{slice_get}
use Rattle.work_share.specs.Slots.{entries_of}
use Rattle.work_share.specs.Links.{next_of, order_of}
use Rattle.work_share.specs.Joining.{entry_tokens}
use Rattle.work_share.proofs.joining.join_tokens.Given as goal

abbrev pub invariant-loop-position : goal.invariant-loop-position
invariant-loop-position l = record {
  left : l.tokens ++ entry_tokens
      (entries_of l.slots.items (drop l._position (order_of l.initial.slots.items)))
      ≡ entry_tokens (entries_of l.initial.slots.items (order_of l.initial.slots.items));
  size : length l.slots.items ≡ length l.initial.slots.items;
  links : (m : ℕ) → next_of l.slots.items m ≡ next_of l.initial.slots.items m;
  here : l.behind ≡ slice_get (order_of l.initial.slots.items) l._position;
}
