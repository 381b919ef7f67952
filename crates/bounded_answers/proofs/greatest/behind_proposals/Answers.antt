use Rattle.std.proofs.Common.{true}
use Rattle.bounded_answers.proofs.ValueBases.{narrowed_open, narrowed_found}
use Rattle.bounded_answers.proofs.greatest.behind_proposals.Goals as goal

pub returns-clause-past : goal.returns-clause-past
returns-clause-past g c =
    narrowed_found true c.args.instance.now c.args.settings.now c.raised.result
    (narrowed_open true c.args.instance.now c.args.settings.now c.in_ok-base.base c.raised.result
    c.raised.ensures.within c.in_ok-base.ensures.past)
    c.narrow.result c.narrow.ensures.within
