use Rattle.std.proofs.Common.{length}
use Rattle.instance_text.specs.Lines.{IsAmong, lines_left}
use Rattle.document_audits.proofs.FrontRead.{IsTreeRead}
use Rattle.document_audits.proofs.front_tree.read_tree.Given as goal

abbrev pub invariant-loop-alloc : goal.invariant-loop-alloc
invariant-loop-alloc l = IsAmong l.bytes l.at
    × IsTreeRead l.bytes l.fn.at l.at l.fn.instance l.fn.width l.fn.height l.refuter

abbrev pub decreases-loop-alloc : goal.decreases-loop-alloc
decreases-loop-alloc l = length (lines_left l.bytes l.at)
