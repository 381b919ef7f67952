use Rattle.std.proofs.Common.{IfSome}
use Rattle.tree_terms.specs.Levels.{first_heights}
use Rattle.tree_terms.specs.Heights.{height_answer_from}
use Rattle.level_search.specs.Runs.{plain_reached}
use Rattle.level_search.proofs.OnRun.{IsOnRun, decisions_left}
use Rattle.strip_solver.specs.Deciding.{IsReadyFor}
use Rattle.strip_solver.proofs.least.bisect_heights.Given as goal

abbrev pub invariant-loop-level : goal.invariant-loop-level
invariant-loop-level g l =
    IsOnRun (height_answer_from l.fn.start l.fn.instance l.fn.settings.budget l.fn.settings.scales) 0
    (first_heights l.fn.instance).placed
    (first_heights l.fn.instance) (plain_reached l.reached)
    × IfSome l.decider (IsReadyFor l.fn.instance l.fn.start)

abbrev pub decreases-loop-level : goal.decreases-loop-level
decreases-loop-level g l = decisions_left (plain_reached l.reached)
