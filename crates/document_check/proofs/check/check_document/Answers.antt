use Rattle.std.proofs.Common.{subst}
use Rattle.verdict_terms.specs.Stages.Stage.{Beginning}
use Rattle.document_lines.specs.Reading.{PlainJudge}
use Rattle.document_check.specs.declared.position.Position.{Position}
use Rattle.document_check.specs.Passes.{IsCheckedFrom}
use Rattle.document_check.proofs.Passes.{from_start}
use Rattle.document_check.proofs.check.check_document.Goals as goal

pub returns : goal.returns
returns g c =
    from_start c.args.heading _ _ _ _ _
    (subst
    (λ (a : Position). IsCheckedFrom (g.S.Source.left c.args.input.now) (g.S.Source.left c.check_from.new.input)
    (g.S.Source.faults c.args.input.now) (g.S.Source.faults c.check_from.new.input)
    a (Beginning c.args.heading) c.check_from.result)
    c.start-at.ensures
    (subst
    (λ (j : PlainJudge). IsCheckedFrom (g.S.Source.left c.args.input.now) (g.S.Source.left c.check_from.new.input)
    (g.S.Source.faults c.args.input.now) (g.S.Source.faults c.check_from.new.input)
    c.start-at.result j.stage c.check_from.result)
    c.new.ensures c.check_from.ensures))
