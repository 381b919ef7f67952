use Rattle.std.proofs.Common.{[], ap, subst}
use Rattle.verdict_terms.specs.Stages.{Stage}
use Rattle.verdict_terms.specs.Stages.Stage.{Gathering}
use Rattle.document_lines.specs.Gatherings.{before_families, behind_families}
use Rattle.document_check.specs.Passes.{IsCheckedFrom}
use Rattle.document_check.proofs.Passes.{memory_here, then_from}
use Rattle.document_check.proofs.families.check_families.Goals as goal

pub returns-in_default : goal.returns-in_default
returns-in_default g c = memory_here _ _ c.args.at.now _ c.requires.1

pub returns-in-None : goal.returns-in-None
returns-in-None g c =
    subst
    (λ (s : Stage). IsCheckedFrom (g.S.Source.left c.args.input.now) (g.S.Source.left c.check_family_end.new.input)
    (g.S.Source.faults c.args.input.now) (g.S.Source.faults c.check_family_end.new.input)
    c.args.at.now s c.check_family_end.result)
    (ap (before_families c.args.claim) c.in-Ok.ensures)
    (then_from _ _ _ _ _ _ c.args.at.now c.read_families.new.at _ _ c.check_family_end.result c.in-None.ensures.goes
    (Gathering c.args.level.now c.args.claim []) (ap (behind_families c.args.claim) c.in-Ok.ensures)
    c.check_family_end.ensures)
