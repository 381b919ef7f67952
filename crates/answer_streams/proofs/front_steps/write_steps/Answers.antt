use Rattle.std.proofs.Common.{sym, arith, map}
use Rattle.pack_streams.proofs.Writers.{none, more, same}
use Rattle.size_front.specs.Plain.{plain_corner, plain_point}
use Rattle.answer_streams.proofs.FrontPieces.{steps_none, steps_more, steps_all}
use Rattle.answer_streams.proofs.front_steps.write_steps.Goals as goal

pub loop-k-init : goal.loop-k-init
loop-k-init g c = same _ _ _ _ _ _ _ _
    (sym (steps_none (map plain_corner c.args.corners.now) (map plain_point c.args.points.now))) (none _ _ _)

pub loop-k-preserved : goal.loop-k-preserved
loop-k-preserved g c =
    same _ _ _ _ _ _ _ _ (steps_more (map plain_corner c.args.corners.now)
    (map plain_point c.args.points.now) c.loop-k.k)
    (more _ _ _ _ _ _ _ _ _ _ _ c.loop-k.invariant
    (more _ _ _ _ _ _ _ _ _ _ _ c.write_corner_at-cornered.ensures c.write_point_at-now.ensures))

pub returns : goal.returns
returns g c =
    let most = c.max-k-end.ensures in
    same _ _ _ _ _ _ _ _ (steps_all c.args.corners.now c.args.points.now c.loop-k.k (omega arith) (omega arith))
    c.loop-k.invariant
