use Rattle.bounded_answers.proofs.ValueBases.{limited_small, base_levels, proposed_base_open}
use Rattle.bounded_answers.proofs.value_base.proposed_base.Goals as goal

pub levels_of-requires : goal.levels_of-requires
levels_of-requires g c =
    limited_small c.args.instance.now c.in_ok-choice.choice c.len-limits.ensures.limits c.in_ok-choice.ensures.limited

pub returns-clause-levels : goal.returns-clause-levels
returns-clause-levels g c =
    base_levels c.args.instance.now c.in_ok-choice.choice c.levels_of.result c.levels_of.ensures
    c.in_ok-choice.ensures.right
    (limited_small c.args.instance.now c.in_ok-choice.choice c.len-limits.ensures.limits c.in_ok-choice.ensures.limited)

pub returns-clause-past : goal.returns-clause-past
returns-clause-past g c =
    proposed_base_open c.args.instance.now c.args.settings.now c.in_ok-choice.choice c.levels_of.result
    c.levels_of.ensures c.in_ok-choice.ensures.past
