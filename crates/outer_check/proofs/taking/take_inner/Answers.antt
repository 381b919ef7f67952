use Rattle.std.proofs.Common.{◌∙◌, sym}
use Rattle.outer_check.proofs.Moves.{took_more, took_done, took_refused}
use Rattle.outer_check.proofs.taking.take_inner.Goals as goal

pub returns-in-More : goal.returns-in-More
returns-in-More c = λ instance goal going.
    took_more instance goal c.args.path.now c.args.point.now c.args.inner.now c.feed.new.self _ c.requires going
    c.feed.ensures.step (sym c.in-More.is ∙ c.feed.ensures.answer)

pub returns-in-Done : goal.returns-in-Done
returns-in-Done c = λ instance goal going.
    took_done instance goal c.args.path.now c.args.point.now c.args.inner.now c.feed.new.self _ c.requires going
    c.feed.ensures.step (sym c.in-Done.is ∙ c.feed.ensures.answer)
    c.leave.new.path c.leave.new.point c.leave.ensures.path c.leave.ensures.point

pub returns-in-Refused : goal.returns-in-Refused
returns-in-Refused c = λ instance goal going.
    took_refused instance goal c.args.path.now c.args.point.now c.args.inner.now c.feed.new.self _ c.requires going
    c.feed.ensures.step c.in-Refused.code (sym c.in-Refused.is ∙ c.feed.ensures.answer)
