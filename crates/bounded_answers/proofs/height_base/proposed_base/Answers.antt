use Rattle.bounded_answers.proofs.HeightBases.{proposed_base_answer, proposed_base_open}
use Rattle.bounded_answers.proofs.height_base.proposed_base.Goals as goal

pub returns-clause-answer : goal.returns-clause-answer
returns-clause-answer g c =
    proposed_base_answer c.args.instance.now c.in_ok-strip.strip c.levels_of.result c.levels_of.ensures
    c.in_ok-strip.ensures.right c.in_ok-strip.ensures.named c.in_ok-strip.ensures.limited

pub returns-clause-past : goal.returns-clause-past
returns-clause-past g c =
    proposed_base_open c.args.instance.now c.in_ok-strip.strip c.levels_of.result c.levels_of.ensures
    c.args.settings.now c.in_ok-strip.ensures.past
