use Rattle.std.proofs.Common.{length, ◌-◌, ◌+◌}
use Rattle.document_audits.proofs.Openings.{IsUnopened}
use Rattle.document_audits.proofs.opening.read_opening.Given as goal

abbrev pub invariant-loop-bytes : goal.invariant-loop-bytes
invariant-loop-bytes g l =
    IsUnopened (g.S.Source.left l.initial.input) (g.S.Source.left l.input) (g.S.Source.faults l.initial.input)
    (g.S.Source.faults l.input) l.limit l.lexer l.bytes.items l.piece

abbrev pub decreases-loop-bytes : goal.decreases-loop-bytes
decreases-loop-bytes g l = l.limit + 1 - length l.bytes.items
