use Rattle.std.proofs.Common.{subst}
use Rattle.bounded_answers.specs.declared.height_levels.BoundedStrip.{BoundedStrip}
use Rattle.bounded_answers.specs.Heights.{plain_strip, IsOpenOnlyPast}
use Rattle.bounded_answers.proofs.HeightBases.{narrowed_open}
use Rattle.bounded_answers.proofs.least.narrowed.Goals as goal

pub returns-in_ok-near-in-Levels-clause-past : goal.returns-in_ok-near-in-Levels-clause-past
returns-in_ok-near-in-Levels-clause-past c = λ proposals settings open_base.
    narrowed_open proposals c.args.instance.now settings c.in-Levels.levels c.in_ok-near-in-Levels.near
    c.in_ok-near-in-Levels.ensures.within
    (subst (λ (b : BoundedStrip). IsOpenOnlyPast proposals c.args.instance.now settings (plain_strip b)) c.in-Levels.is
    open_base)
