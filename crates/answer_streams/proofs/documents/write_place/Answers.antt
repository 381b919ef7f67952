use Rattle.std.proofs.Common.{sym, append-nil}
use Rattle.pack_streams.proofs.Writers.{more, same}
use Rattle.answer_streams.proofs.documents.write_place.Goals as goal

pub returns : goal.returns
returns g c = same _ _ _ _ _ _ _ _ (sym (append-nil _))
    (more _ _ _ _ _ _ _ _ _ _ _ (more _ _ _ _ _ _ _ _ _ _ _ c.write_on-named.ensures.goes_on
    c.write_coordinates-placed.ensures) c.write_on.ensures.goes_on)
