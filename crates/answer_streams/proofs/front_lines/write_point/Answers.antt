use Rattle.pack_streams.proofs.Writers.{more, same}
use Rattle.answer_streams.proofs.FrontPieces.{point_text}
use Rattle.answer_streams.proofs.front_lines.write_point.Goals as goal

pub returns : goal.returns
returns g c =
    same _ _ _ _ _ _ _ _ (point_text c.args.point.now.width c.args.point.now.height c.args.point.now.places.items)
    (more _ _ _ _ _ _ _ _ _ _ _ c.write_pair-named.ensures (rw c.deref.ensures.value at c.write_places.ensures))
