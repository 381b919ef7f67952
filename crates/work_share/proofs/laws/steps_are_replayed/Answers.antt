use Rattle.work_share.specs.Board.{board_start}
use Rattle.work_share.proofs.Calls.{step_happens, steps_replay}
use Rattle.work_share.proofs.laws.steps_are_replayed.Goals as goal

pub returns-clause-step : goal.returns-clause-step
returns-clause-step c = step_happens

pub returns-clause-steps : goal.returns-clause-steps
returns-clause-steps c tree budget calls board s = steps_replay tree budget calls board_start board s
