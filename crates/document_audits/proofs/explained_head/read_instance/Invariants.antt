use Rattle.std.proofs.Common.{length, ◌≡◌}
use Rattle.text_terms.specs.Texts.{no_parts}
use Rattle.verdict_terms.specs.ExplainedStages.{Reading}
use Rattle.instance_text.specs.Lines.{IsAmong, lines_left}
use Rattle.document_audits.specs.ExplainedAudits.{verdict_left}
use Rattle.instance_text.specs.Readers.{held_parts, IsHeldHead}
use Rattle.document_audits.proofs.explained_head.read_instance.Given as goal

abbrev pub invariant-loop-reader : goal.invariant-loop-reader
invariant-loop-reader l =
    IsAmong l.bytes l.at × IsHeldHead l.reader
    × (verdict_left l.bytes l.initial.at (Reading no_parts) ≡ verdict_left l.bytes l.at (Reading (held_parts l.reader)))

abbrev pub decreases-loop-reader : goal.decreases-loop-reader
decreases-loop-reader l = length (lines_left l.bytes l.at)
