use Rattle.level_search.specs.Bounds.{plain_bounds, levels_left}
use Rattle.proposed_answers.specs.Heights.{AreHeightBounds}
use Rattle.proposed_answers.proofs.heights.narrow_heights.Given as goal

abbrev pub invariant-loop-level : goal.invariant-loop-level
invariant-loop-level g l = AreHeightBounds l.fn.instance l.fn.settings l.fn.effort (plain_bounds l.bounds)

abbrev pub decreases-loop-level : goal.decreases-loop-level
decreases-loop-level g l = levels_left (plain_bounds l.bounds)
