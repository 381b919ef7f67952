use Rattle.std.proofs.Common.{length, ◌≡◌}
use Rattle.verdict_terms.specs.ExplainedStages.{Explaining}
use Rattle.instance_text.specs.Lines.{IsAmong, lines_left}
use Rattle.document_audits.specs.ExplainedAudits.{verdict_left}
use Rattle.document_audits.specs.ExplainedTrees.{IsGoing}
use Rattle.document_audits.proofs.explained_tree.read_tree.Given as goal

abbrev pub invariant-loop-alloc : goal.invariant-loop-alloc
invariant-loop-alloc l =
    IsAmong l.bytes l.at × IsGoing l.auditor l.dims × (l.auditor.instance ≡ l.initial.auditor.instance)
    × (verdict_left l.bytes l.initial.at (Explaining l.initial.auditor.instance l.initial.auditor.audited.nodes)
    ≡ verdict_left l.bytes l.at (Explaining l.auditor.instance l.auditor.audited.nodes))

abbrev pub decreases-loop-alloc : goal.decreases-loop-alloc
decreases-loop-alloc l = length (lines_left l.bytes l.at)
