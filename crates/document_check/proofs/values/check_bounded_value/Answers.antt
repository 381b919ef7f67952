use Rattle.std.proofs.Common.{[], ap, subst}
use Rattle.verdict_terms.specs.Stages.{Stage}
use Rattle.verdict_terms.specs.Stages.Stage.{Bounding}
use Rattle.document_lines.specs.Boundings.{at_nodes, behind_nodes}
use Rattle.document_check.specs.Passes.{IsCheckedFrom}
use Rattle.document_check.proofs.Passes.{memory_here, then_from}
use Rattle.document_check.proofs.values.check_bounded_value.Goals as goal

pub returns-in_default : goal.returns-in_default
returns-in_default g c = memory_here _ _ c.args.at.now _ c.requires.1

pub returns-in-None : goal.returns-in-None
returns-in-None g c =
    subst
    (λ (s : Stage). IsCheckedFrom (g.S.Source.left c.args.input.now) (g.S.Source.left c.check_bound_end.new.input)
    (g.S.Source.faults c.args.input.now) (g.S.Source.faults c.check_bound_end.new.input)
    c.args.at.now s c.check_bound_end.result)
    (ap (at_nodes c.args.claim) c.in-Ok.ensures)
    (then_from _ _ _ _ _ _ c.args.at.now c.read_bounded.new.at _ _ c.check_bound_end.result c.in-None.ensures.goes
    (Bounding c.args.instance.now c.args.claim c.args.refuted []) (ap (behind_nodes c.args.claim) c.in-Ok.ensures)
    c.check_bound_end.ensures)
