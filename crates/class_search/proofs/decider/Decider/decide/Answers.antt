use Rattle.std.proofs.Common.{[]}
use Rattle.std.proofs.lemmas.Result.{IfOk-weaker}
use Rattle.work_share.specs.Outcomes.{plain_outcome}
use Rattle.class_search.proofs.Rights.{class_right, class_decides, class_told}
use Rattle.class_search.proofs.decider.Decider.decide.Goals as goal

pub returns-clause-right : goal.returns-clause-right
returns-clause-right c =
    IfOk-weaker c.searched.result _ _
    (λ r h. class_right c.args.instance.now c.len-limits.ensures.limits c.args.scales c.args.budget
    (plain_outcome r) h)
    c.searched.ensures.outcome

pub returns-clause-decides : goal.returns-clause-decides
returns-clause-decides c =
    IfOk-weaker c.searched.result _ _
    (λ r h. class_decides c.args.instance.now c.len-limits.ensures.limits c.args.scales c.args.budget
    (plain_outcome r) h)
    c.searched.ensures.outcome

pub returns-clause-enough : goal.returns-clause-enough
returns-clause-enough c l =
    IfOk-weaker c.searched.result _ _
    (λ r h. class_told c.args.instance.now c.len-limits.ensures.limits [] c.args.scales c.args.budget
    (plain_outcome r) h l)
    c.searched.ensures.outcome
