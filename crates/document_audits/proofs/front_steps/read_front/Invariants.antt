use Rattle.std.proofs.Common.{length, ◌≡◌}
use Rattle.verdict_terms.specs.Lines.{announced}
use Rattle.front_check.specs.Audits.{plain_stage, IsPartInside}
use Rattle.instance_text.specs.Lines.{IsAmong, lines_left}
use Rattle.document_audits.specs.FrontAudits.{verdict_left}
use Rattle.document_audits.specs.FrontParts.{at_front}
use Rattle.document_audits.proofs.front_steps.read_front.Given as goal

abbrev pub invariant-loop-alloc : goal.invariant-loop-alloc
invariant-loop-alloc l =
    IsAmong l.bytes l.at × IsPartInside l.fn.instance l.stage.part
    × (verdict_left l.bytes l.fn.at (at_front l.fn.instance l.fn.complete l.fn.points (announced l.fn.points))
    ≡ verdict_left l.bytes l.at (at_front l.fn.instance l.fn.complete l.fn.points (plain_stage l.stage)))

abbrev pub decreases-loop-alloc : goal.decreases-loop-alloc
decreases-loop-alloc l = length (lines_left l.bytes l.at)
