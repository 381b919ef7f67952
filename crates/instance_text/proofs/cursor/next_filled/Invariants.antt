use Rattle.std.proofs.Common.{length, ◌≤◌, ◌≡◌}
use Rattle.instance_text.specs.Lines.{IsAmong, lines_left, filled_left}
use Rattle.instance_text.proofs.cursor.next_filled.Given as goal

abbrev pub invariant-loop-at : goal.invariant-loop-at
invariant-loop-at l =
    IsAmong l.bytes l.at × (filled_left l.bytes l.initial.at ≡ filled_left l.bytes l.at)
    × (length (lines_left l.bytes l.at) ≤ length (lines_left l.bytes l.initial.at))

abbrev pub decreases-loop-at : goal.decreases-loop-at
decreases-loop-at l = length (lines_left l.bytes l.at)
