use Rattle.std.proofs.lemmas.Result.{IfOk-weaker}
use Rattle.pack_command.proofs.Ended.{audited_answers}
use Rattle.pack_command.proofs.top.job.Goals as goal

pub returns-in-Auditing-clause-status : goal.returns-in-Auditing-clause-status
returns-in-Auditing-clause-status g c =
    IfOk-weaker c.audit.result _ _ (λ status done. audited_answers _ _ _ _ status done) c.audit.ensures.judged
