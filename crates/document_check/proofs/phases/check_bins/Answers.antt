use Rattle.document_check.proofs.Passes.{then_from}
use Rattle.document_check.proofs.phases.check_bins.Goals as goal

pub returns-in-None : goal.returns-in-None
returns-in-None g c = then_from _ _ _ _ _ _ c.args.at.now c.read_shares.new.at _ _ c.check_few_bins.result
    c.in-None.ensures.goes _ c.requires.says c.check_few_bins.ensures
