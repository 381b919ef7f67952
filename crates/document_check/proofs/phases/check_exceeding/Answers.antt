use Rattle.std.proofs.Common.{sym, ap, Some}
use Rattle.verdict_terms.specs.Stages.Stage.{Ending}
use Rattle.document_check.proofs.Passes.{then_from}
use Rattle.document_check.proofs.phases.check_exceeding.Goals as goal

pub returns-in-None : goal.returns-in-None
returns-in-None g c =
    then_from _ _ _ _ _ _ c.args.at.now c.read_exceeding.new.at _ _ c.check_end.result c.in-None.ensures.goes
    (Ending c.args.claim (Some c.dims.result))
    (ap (λ n. Ending c.args.claim (Some n)) (sym c.dims.ensures.value)) c.check_end.ensures
