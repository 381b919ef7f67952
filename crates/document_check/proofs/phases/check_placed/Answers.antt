use Rattle.document_check.proofs.Passes.{then_from}
use Rattle.document_check.proofs.phases.check_placed.Goals as goal

pub returns-in-None : goal.returns-in-None
returns-in-None g c = then_from _ _ _ _ _ _ c.args.at.now c.read_places.new.at _ _ c.check_misfit.result
    c.in-None.ensures.goes _ c.requires.says c.check_misfit.ensures
