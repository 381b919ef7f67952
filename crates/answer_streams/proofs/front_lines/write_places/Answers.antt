use Rattle.std.proofs.Common.{◌*◌, refl, arith}
use Rattle.pack_streams.proofs.Writers.{none, more, same}
use Rattle.answer_streams.proofs.FrontPieces.{places_more, places_all}
use Rattle.answer_streams.proofs.front_lines.write_places.Goals as goal

pub loop-k-init : goal.loop-k-init
loop-k-init g c = none _ _ _

pub loop-k-preserved : goal.loop-k-preserved
loop-k-preserved g c =
    same _ _ _ _ _ _ _ _ (places_more c.args.places.now c.loop-k.k _ _ (2 * c.loop-k.k) 0 (omega arith) refl refl refl)
    (more _ _ _ _ _ _ _ _ _ _ _ c.loop-k.invariant c.write_pair-now.ensures)

pub returns : goal.returns
returns g c = same _ _ _ _ _ _ _ _ (places_all c.args.places.now c.loop-k.k (omega arith)) c.loop-k.invariant
