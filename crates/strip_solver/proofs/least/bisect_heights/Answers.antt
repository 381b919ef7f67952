use Rattle.std.proofs.Common.{sym, subst, IfSome}
use Rattle.level_search.specs.Runs.{plain_level, plain_reached}
use Rattle.level_search.proofs.OnRun.{on_run_next, run_told}
use Rattle.strip_solver.specs.Deciding.{IsReadyFor}
use Rattle.strip_solver.proofs.least.bisect_heights.Goals as goal

pub loop-level-preserved : goal.loop-level-preserved
loop-level-preserved g c = (
  on_run_next _ _ _ _ (plain_reached c.loop-level.reached) (plain_reached c.after-reached.result) c.in-Some.level
      (plain_level c.in_ok-answer.answer)
      c.loop-level.invariant.0 c.in-Some.ensures c.in_ok-answer.ensures.answer c.after-reached.ensures,
  subst (λ found. IfSome found (IsReadyFor c.args.instance.now c.args.start.now)) (sym c.in_ok-answer.ensures.same)
      c.loop-level.invariant.1,
)

pub returns : goal.returns
returns g c = run_told _ _ _ _ (plain_reached c.loop-level.reached) c.loop-level.invariant.0 c.in_default.ensures
