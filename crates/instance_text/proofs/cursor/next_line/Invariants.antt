use Rattle.std.proofs.Common.{length, ◌-◌, ◌≡◌}
use Rattle.instance_text.specs.Lines.{IsAmong, lines_left}
use Rattle.instance_text.proofs.cursor.next_line.Given as goal

abbrev pub invariant-loop-at : goal.invariant-loop-at
invariant-loop-at l =
    IsAmong l.bytes l.at × (lines_left l.bytes l.initial.at ≡ lines_left l.bytes l.at)
    × (l.at.line.number ≡ l.initial.at.line.number)

abbrev pub decreases-loop-at : goal.decreases-loop-at
decreases-loop-at l = length l.bytes - l.at.given
