use Rattle.std.proofs.lemmas.Result.{IfOk-weaker}
use Rattle.work_share.specs.Outcomes.{plain_outcome}
use Rattle.class_search.proofs.Rights.{class_right}
use Rattle.class_search.proofs.decision.decide_in.Goals as goal

pub returns-clause-right : goal.returns-clause-right
returns-clause-right c =
    IfOk-weaker c.searched_alone.result _ _
    (λ r h. class_right c.args.instance.now c.len-limits.ensures.limits c.args.scales c.args.budget
    (plain_outcome r) h)
    c.searched_alone.ensures.outcome
