use Rattle.bounded_answers.proofs.HeightBases.{plain_base_answer, plain_base_open}
use Rattle.bounded_answers.proofs.height_base.plain_base.Goals as goal

pub returns-clause-answer : goal.returns-clause-answer
returns-clause-answer g c =
    plain_base_answer c.args.instance.now c.in_ok-strip.strip c.levels_of.result c.levels_of.ensures
    c.args.settings.now c.len-limits.ensures.limits c.in_ok-strip.ensures.right c.in_ok-strip.ensures.answer

pub returns-clause-past : goal.returns-clause-past
returns-clause-past g c =
    plain_base_open c.args.instance.now c.in_ok-strip.strip c.levels_of.result c.levels_of.ensures
    c.args.settings.now c.in_ok-strip.ensures.answer c.in_ok-strip.ensures.spent
