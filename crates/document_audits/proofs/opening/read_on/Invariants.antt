use Rattle.std.proofs.Common.{length, ◌-◌, ◌+◌}
use Rattle.document_audits.proofs.Rest.{IsReadBehind}
use Rattle.document_audits.proofs.opening.read_on.Given as goal

abbrev pub invariant-loop-count : goal.invariant-loop-count
invariant-loop-count g l =
    IsReadBehind (g.S.Source.left l.initial.input) (g.S.Source.left l.input) (g.S.Source.faults l.initial.input)
    (g.S.Source.faults l.input) l.limit l.initial.bytes.items l.bytes.items

abbrev pub decreases-loop-count : goal.decreases-loop-count
decreases-loop-count g l = l.limit + 1 - length l.bytes.items
