use Rattle.std.proofs.Common.{Some}
use Rattle.verdict_terms.specs.Stages.Stage.{Ending}
use Rattle.document_check.proofs.Beginnings.{at_behind}
use Rattle.document_check.proofs.Passes.{then_from}
use Rattle.document_check.proofs.phases.check_tree.Goals as goal

pub returns : goal.returns
returns g c =
    then_from _ _ _ _ _ _ c.args.at.now c.give_lines.new.at _ _ c.check_end.result c.in-None.ensures.goes
    (Ending c.args.claim (Some c.args.dims))
    (at_behind c.args.judge.behind c.give_lines.new.judge.stage (Ending c.args.claim (Some c.args.dims))
    (c.give_lines.ensures.behind c.in-None.is) c.requires.behind) c.check_end.ensures
