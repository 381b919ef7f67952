use Rattle.std.proofs.Common.{◌∙◌, subst, []}
use Rattle.proof_tree.specs.declared.outcome.Outcome.{Outcome}
use Rattle.work_share.specs.Outcomes.{plain_outcome}
use Rattle.class_search.specs.Right.{IsRight}
use Rattle.proposed_answers.specs.Behind.{plain_proposal, IsWithoutScales}
use Rattle.proposed_answers.proofs.Behind.{proposal_counted, outcome_right}
use Rattle.proposed_answers.proofs.Plain.{outcome_without}
use Rattle.proposed_answers.proofs.decision.decide_packed.Goals as goal

pub returns-in-Yes-clause-right : goal.returns-in-Yes-clause-right
returns-in-Yes-clause-right g c =
    let instance = c.args.instance.now in
    let p = c.wanted-places.result in
    let early = c.early_settings-early.result in
    subst (λ (o : Outcome). IsRight instance [] (plain_outcome o)) c.in-Yes.is
    (outcome_right instance c.len-limits.ensures.limits early.budget early.scales (plain_proposal p)
    (plain_outcome c.in_ok-numbers.field-0) c.in_ok-numbers.ensures.outcome
    (proposal_counted instance p c.wanted-places.ensures.sized))

pub returns-in-No-clause-right : goal.returns-in-No-clause-right
returns-in-No-clause-right g c =
    let instance = c.args.instance.now in
    let p = c.wanted-places.result in
    let early = c.early_settings-early.result in
    subst (λ (o : Outcome). IsRight instance [] (plain_outcome o)) c.in-No.is
    (outcome_right instance c.len-limits.ensures.limits early.budget early.scales (plain_proposal p)
    (plain_outcome c.in_ok-numbers.field-0) c.in_ok-numbers.ensures.outcome
    (proposal_counted instance p c.wanted-places.ensures.sized))

pub returns-in-No-clause-plain : goal.returns-in-No-clause-plain
returns-in-No-clause-plain g c off =
    let early = c.early_settings-early.result in
    subst (λ (o : Outcome). IsWithoutScales (plain_outcome o)) c.in-No.is
    (outcome_without c.args.instance.now early.budget early.scales (plain_proposal c.wanted-places.result)
    (plain_outcome c.in_ok-numbers.field-0) c.in_ok-numbers.ensures.outcome
    (c.early_settings-early.ensures.scales ∙ off) (c.wanted-places.ensures.plain off))
