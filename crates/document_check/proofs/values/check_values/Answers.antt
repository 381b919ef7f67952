use Rattle.document_check.proofs.Passes.{then_from}
use Rattle.document_check.proofs.values.check_values.Goals as goal
use Rattle.std.proofs.Common.{refl}

pub returns-in-None : goal.returns-in-None
returns-in-None g c =
    then_from _ _ _ _ _ _ c.args.at.now c.read_taken.new.at _ _ c.check_refuted.result c.in-None.ensures.goes
    _ refl c.check_refuted.ensures
