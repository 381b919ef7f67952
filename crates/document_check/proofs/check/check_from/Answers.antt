use Rattle.std.proofs.Common.{refl}
use Rattle.document_check.proofs.Passes.{then_from}
use Rattle.document_check.proofs.check.check_from.Goals as goal

pub returns-in-Ok : goal.returns-in-Ok
returns-in-Ok g c =
    then_from _ _ _ _ _ _ c.args.at.now c.read_head.new.at _ _ c.check_claimed.result c.in-Ok.ensures.goes _ refl
    c.check_claimed.ensures
