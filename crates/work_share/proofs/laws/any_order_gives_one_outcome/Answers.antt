use Rattle.std.proofs.Common.{ℕ, List, sym, subst}
use Rattle.tree_terms.specs.Trees.{SearchTree}
use Rattle.work_share.specs.Board.{BoardState, board_start}
use Rattle.work_share.specs.Steps.{Call, AreSteps, events_of}
use Rattle.work_share.proofs.Replays.{Keeps, keeps_start, keeps_replay}
use Rattle.work_share.proofs.Outs.{outs_apart, some_out}
use Rattle.work_share.proofs.Once.{finished_once}
use Rattle.work_share.proofs.RunRight.{joins_right}
use Rattle.work_share.proofs.Calls.{steps_replay}
use Rattle.work_share.proofs.laws.any_order_gives_one_outcome.Goals as goal

kept : (tree : SearchTree) (budget : ℕ) (calls : List Call) (board : BoardState)
    → AreSteps tree budget board_start calls board
    → Keeps tree budget board.entries
kept tree budget calls board s =
    subst (λ (b : BoardState). Keeps tree budget b.entries) (sym (steps_replay tree budget calls board_start board s))
    (keeps_replay tree budget (events_of calls))

pub returns-clause-apart : goal.returns-clause-apart
returns-clause-apart c tree budget calls board s = outs_apart board.entries (kept tree budget calls board s).order

pub returns-clause-once : goal.returns-clause-once
returns-clause-once c tree budget calls board s =
    finished_once tree budget (events_of calls) board_start (keeps_start tree budget)

pub returns-clause-empty : goal.returns-clause-empty
returns-clause-empty c tree budget calls board after s none = some_out budget board none.0 none.1

pub returns-clause-joined : goal.returns-clause-joined
returns-clause-joined c tree budget calls board s = joins_right tree budget board (kept tree budget calls board s)
