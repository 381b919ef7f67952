use Rattle.std.proofs.Common.{ap, subst}
use Rattle.verdict_terms.specs.Stages.{Stage}
use Rattle.verdict_terms.specs.Stages.Stage.{Proving}
use Rattle.document_lines.specs.Proofs.{refuted_by}
use Rattle.document_check.specs.Passes.{IsCheckedFrom}
use Rattle.document_check.proofs.Passes.{memory_here}
use Rattle.document_check.proofs.phases.check_plain_misfit.Goals as goal

pub returns-in-Ok : goal.returns-in-Ok
returns-in-Ok g c =
    subst
    (λ (s : Stage). IsCheckedFrom (g.S.Source.left c.args.input.now) (g.S.Source.left c.check_proof.new.input)
    (g.S.Source.faults c.args.input.now) (g.S.Source.faults c.check_proof.new.input)
    c.args.at.now s c.check_proof.result)
    (ap (λ t. Proving c.args.head.now.claim (refuted_by t)) c.in-Ok.ensures.tree) c.check_proof.ensures

pub returns-in-Err : goal.returns-in-Err
returns-in-Err g c = memory_here _ _ c.args.at.now _ c.requires.at.1
