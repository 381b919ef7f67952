use Rattle.work_share.specs.Board.{board_start}
use Rattle.work_share.specs.Replay.{replay}
use Rattle.work_share.proofs.Replays.{keeps_start, keeps_replay}
use Rattle.work_share.proofs.Outs.{outs_apart}
use Rattle.work_share.proofs.Once.{finished_once}
use Rattle.work_share.proofs.RunRight.{joins_right}
use Rattle.work_share.proofs.laws.histories_keep_a_board.Goals as goal

pub returns-clause-numbers : goal.returns-clause-numbers
returns-clause-numbers c tree budget events = (keeps_replay tree budget events).numbers

pub returns-clause-below : goal.returns-clause-below
returns-clause-below c tree budget events = (keeps_replay tree budget events).below

pub returns-clause-order : goal.returns-clause-order
returns-clause-order c tree budget events = (keeps_replay tree budget events).order

pub returns-clause-apart : goal.returns-clause-apart
returns-clause-apart c tree budget events =
    outs_apart (replay tree budget events).entries (keeps_replay tree budget events).order

pub returns-clause-right : goal.returns-clause-right
returns-clause-right c tree budget events = (keeps_replay tree budget events).right

pub returns-clause-once : goal.returns-clause-once
returns-clause-once c tree budget events = finished_once tree budget events board_start (keeps_start tree budget)

pub returns-clause-joined : goal.returns-clause-joined
returns-clause-joined c tree budget events =
    joins_right tree budget (replay tree budget events) (keeps_replay tree budget events)
