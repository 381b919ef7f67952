use Rattle.bounded_answers.proofs.ValueBases.{run_small, base_levels, plain_base_open}
use Rattle.bounded_answers.proofs.value_base.plain_base.Goals as goal

pub levels_of-requires : goal.levels_of-requires
levels_of-requires g c =
    run_small c.args.instance.now c.args.settings.now.budget c.args.settings.now.scales c.in_ok-choice.choice
    c.len-limits.ensures.limits c.in_ok-choice.ensures.answer

pub returns-clause-levels : goal.returns-clause-levels
returns-clause-levels g c =
    base_levels c.args.instance.now c.in_ok-choice.choice c.levels_of.result c.levels_of.ensures
    c.in_ok-choice.ensures.right
    (run_small c.args.instance.now c.args.settings.now.budget c.args.settings.now.scales c.in_ok-choice.choice
    c.len-limits.ensures.limits c.in_ok-choice.ensures.answer)

pub returns-clause-past : goal.returns-clause-past
returns-clause-past g c =
    plain_base_open c.args.instance.now c.args.settings.now c.in_ok-choice.choice c.levels_of.result c.levels_of.ensures
    c.in_ok-choice.ensures.answer c.in_ok-choice.ensures.spent
