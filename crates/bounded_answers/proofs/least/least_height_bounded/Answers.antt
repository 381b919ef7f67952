use Rattle.std.proofs.lemmas.Result.{IfOk-weaker}
use Rattle.bounded_answers.proofs.least.least_height_bounded.Goals as goal

pub returns-clause-past : goal.returns-clause-past
returns-clause-past g c =
    IfOk-weaker c.narrowed.result _ _ (λ s keeps. keeps c.args.proposals c.args.settings.now c.in_ok-base.ensures.past)
    c.narrowed.ensures.past
