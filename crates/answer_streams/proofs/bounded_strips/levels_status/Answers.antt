use Rattle.std.proofs.Common.{◌∙◌, sym}
use Rattle.bounded_answers.specs.Heights.{plain_levels}
use Rattle.answer_streams.proofs.BoundedStripTexts.{closed_status, apart_status}
use Rattle.answer_streams.proofs.bounded_strips.levels_status.Goals as goal

pub returns-then-are_closed : goal.returns-then-are_closed
returns-then-are_closed c =
    closed_status (plain_levels c.args.levels.now) (sym c.are_closed.ensures ∙ c.if-are_closed.true)

pub returns-else-are_closed : goal.returns-else-are_closed
returns-else-are_closed c =
    apart_status (plain_levels c.args.levels.now) (sym c.are_closed.ensures ∙ c.if-are_closed.false)
