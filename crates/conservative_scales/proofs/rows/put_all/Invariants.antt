use Rattle.std.proofs.Common.{◌≡◌, length}
use Rattle.conservative_scales.specs.Within.{from_next}
use Rattle.conservative_scales.proofs.FastestRows.{IsFilling}
use Rattle.conservative_scales.proofs.rows.put_all.Given as goal

abbrev pub invariant-loop-next : goal.invariant-loop-next
invariant-loop-next l = record {
  filling : IsFilling l.instance l.row l.functions l.made l.next;
  room : length l.functions ≡ length l.fn.functions;
  places : length l.made ≡ length l.fn.made;
}

abbrev pub decreases-loop-next : goal.decreases-loop-next
decreases-loop-next l = length (from_next l.instance 0 l.next)
