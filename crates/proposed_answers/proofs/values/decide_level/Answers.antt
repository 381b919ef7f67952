use Rattle.std.proofs.Common.{◌≡◌, arith}
use Rattle.proposed_answers.specs.Values.{value_at}
use Rattle.proposed_answers.proofs.ChoiceAnswered.{level_answered}
use Rattle.proposed_answers.proofs.values.decide_level.Goals as goal

pub returns-clause-answer : goal.returns-clause-answer
returns-clause-answer g c =
    let t = c.requires.top in
    let e = c.saturating_sub-value.ensures in
    let value : c.saturating_sub-value.result ≡ value_at c.args.instance.now c.args.level = omega (arith, t, e) in
    level_answered c.args.instance.now c.len-limits.ensures.limits c.args.settings.now c.args.level c.args.branchings
    c.requires.enough c.saturating_sub-value.result value c.decide_value.result c.decide_value.ensures.level
