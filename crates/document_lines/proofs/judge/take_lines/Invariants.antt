use Rattle.document_lines.proofs.Steps.{IsReading}
use Rattle.std.proofs.Common.{◌-◌, ◌≡◌}
use Rattle.document_lines.proofs.judge.take_lines.Given as goal

abbrev pub invariant-loop-count : goal.invariant-loop-count
invariant-loop-count g l =
    IsReading (g.S.Source.left l.initial.input) (g.S.Source.left l.input) (g.S.Source.faults l.initial.input)
    (g.S.Source.faults l.input) l.initial.lexer (g.J.LineJudge.stage l.initial.judge) l.initial.count
    l.lexer (g.J.LineJudge.stage l.judge) l.count (g.J.LineJudge.takes l.judge) l.piece
    × (g.J.LineJudge.behind l.judge ≡ g.J.LineJudge.behind l.initial.judge)

abbrev pub decreases-loop-count : goal.decreases-loop-count
decreases-loop-count g l = 1099511627776 - l.count
