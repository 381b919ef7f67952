use Rattle.std.proofs.Common.{refl}
use Rattle.document_check.proofs.Passes.{goes_on}
use Rattle.document_check.proofs.showing.read_head.Goals as goal

pub returns-clause-goes : goal.returns-clause-goes
returns-clause-goes g c =
    goes_on _ _ _ _ c.args.at.now c.give_lines.new.at c.args.head c.args.head.stage c.give_lines.new.judge.stage _
    c.give_lines.result refl c.give_lines.ensures.goes c.in_default.is c.in-Some-into_claimed.ensures.claimed
