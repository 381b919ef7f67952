use Rattle.pack_streams.proofs.Writers.{more, same}
use Rattle.answer_streams.proofs.Joined.{place_more}
use Rattle.answer_streams.proofs.documents.write_places.Goals as goal

pub loop-box_no-preserved : goal.loop-box_no-preserved
loop-box_no-preserved g c = same _ _ _ _ _ _ _ _ (place_more c.args.instance.now c.args.places.now c.loop-box_no.box_no)
    (more _ _ _ _ _ _ _ _ _ _ _ c.loop-box_no.invariant c.write_place-now.ensures)
