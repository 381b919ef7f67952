use Rattle.std.proofs.Common.{arith, []}
use Rattle.std.proofs.lemmas.Result.{IfOk-weaker}
use Rattle.packing_terms.proofs.Internal.{some_dimension}
use Rattle.tree_terms.proofs.Counts.{class_count}
use Rattle.work_share.specs.Outcomes.{plain_outcome}
use Rattle.proposed_answers.proofs.Behind.{right_decides, told_within}
use Rattle.proposed_answers.proofs.decision.decide_proposed.Goals as goal

pub returns-clause-decides : goal.returns-clause-decides
returns-clause-decides g c =
    IfOk-weaker c.decide_in_order.result _ _
    (λ r h. right_decides c.args.instance.now c.len-limits.ensures.limits (plain_outcome r) h)
    c.decide_in_order.ensures.right

pub returns-clause-within : goal.returns-clause-within
returns-clause-within g c l =
    IfOk-weaker c.decide_in_order.result _ _
    (λ r h. told_within c.args.instance.now c.args.settings.now.budget c.args.settings.now.scales (plain_outcome r) h l)
    c.decide_in_order.ensures.past

pub returns-clause-enough : goal.returns-clause-enough
returns-clause-enough g c l =
    let b = class_count c.args.instance.now (some_dimension c.args.instance.now c.len-limits.ensures.limits) []
    c.args.settings.now.scales in
    returns-clause-within g c (omega (arith, b, l))
