use Rattle.std.proofs.lemmas.Result.{IfOk-weaker}
use Rattle.work_share.specs.Outcomes.{plain_outcome}
use Rattle.proposed_answers.specs.Behind.{plain_proposal}
use Rattle.proposed_answers.proofs.Behind.{proposal_counted, outcome_right}
use Rattle.proposed_answers.proofs.Plain.{outcome_without}
use Rattle.proposed_answers.proofs.decision.decide_open.Goals as goal

pub returns-clause-right : goal.returns-clause-right
returns-clause-right g c =
    let instance = c.args.instance.now in
    let p = c.wanted-proposal.result in
    IfOk-weaker c.decide_with_proposal.result _ _
    (λ r h. outcome_right instance c.len-limits.ensures.limits c.args.settings.now.budget c.args.settings.now.scales
    (plain_proposal p) (plain_outcome r) h
    (proposal_counted instance p c.wanted-proposal.ensures.sized))
    c.decide_with_proposal.ensures.outcome

pub returns-clause-plain : goal.returns-clause-plain
returns-clause-plain g c off =
    IfOk-weaker c.decide_with_proposal.result _ _
    (λ r h. outcome_without c.args.instance.now c.args.settings.now.budget c.args.settings.now.scales
    (plain_proposal c.wanted-proposal.result) (plain_outcome r) h off (c.wanted-proposal.ensures.plain off))
    c.decide_with_proposal.ensures.outcome
