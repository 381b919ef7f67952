use Rattle.std.proofs.Common.{◌∙◌, subst, []}
use Rattle.proof_tree.specs.declared.outcome.Outcome.{Outcome}
use Rattle.work_share.specs.Outcomes.{plain_outcome}
use Rattle.class_search.specs.Right.{IsRight}
use Rattle.proposed_answers.specs.Behind.{Nothing, IsWithoutScales}
use Rattle.proposed_answers.proofs.Behind.{outcome_right}
use Rattle.proposed_answers.proofs.Plain.{outcome_without}
use Rattle.proposed_answers.proofs.decision.decide_in_order.Goals as goal

pub returns-in-Yes-clause-right : goal.returns-in-Yes-clause-right
returns-in-Yes-clause-right g c =
    let root = c.root_settings-root.result in
    subst (λ (o : Outcome). IsRight c.args.instance.now [] (plain_outcome o)) c.in-Yes.is
    (outcome_right c.args.instance.now c.len-limits.ensures.limits root.budget root.scales Nothing
    (plain_outcome c.in_ok-numbers.field-0) c.in_ok-numbers.ensures.outcome tt)

pub returns-in-No-clause-right : goal.returns-in-No-clause-right
returns-in-No-clause-right g c =
    let root = c.root_settings-root.result in
    subst (λ (o : Outcome). IsRight c.args.instance.now [] (plain_outcome o)) c.in-No.is
    (outcome_right c.args.instance.now c.len-limits.ensures.limits root.budget root.scales Nothing
    (plain_outcome c.in_ok-numbers.field-0) c.in_ok-numbers.ensures.outcome tt)

pub returns-in-No-clause-plain : goal.returns-in-No-clause-plain
returns-in-No-clause-plain g c off =
    let root = c.root_settings-root.result in
    subst (λ (o : Outcome). IsWithoutScales (plain_outcome o)) c.in-No.is
    (outcome_without c.args.instance.now root.budget root.scales Nothing
    (plain_outcome c.in_ok-numbers.field-0) c.in_ok-numbers.ensures.outcome
    (c.root_settings-root.ensures ∙ off) tt)
