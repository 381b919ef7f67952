use Rattle.level_search.specs.Runs.{plain_level}
use Rattle.level_search.specs.Bounds.{plain_bounds}
use Rattle.proposed_answers.proofs.ChoiceAnswered.{asked_step}
use Rattle.proposed_answers.proofs.values.ask_level.Goals as goal

pub returns-clause-kept : goal.returns-clause-kept
returns-clause-kept g c =
    (asked_step c.args.instance.now c.args.settings.now (plain_bounds c.args.bounds) c.requires.bounds c.args.level
    c.requires.asked (plain_level c.in_ok-answer.answer) c.in_ok-answer.ensures.answer
    (plain_bounds c.after.result) c.after.ensures).0

pub returns-clause-less : goal.returns-clause-less
returns-clause-less g c =
    (asked_step c.args.instance.now c.args.settings.now (plain_bounds c.args.bounds) c.requires.bounds c.args.level
    c.requires.asked (plain_level c.in_ok-answer.answer) c.in_ok-answer.ensures.answer
    (plain_bounds c.after.result) c.after.ensures).1
