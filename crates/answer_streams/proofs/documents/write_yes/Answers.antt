use Rattle.pack_streams.proofs.Writers.{more, same}
use Rattle.answer_streams.proofs.Joined.{headed, yes_text}
use Rattle.answer_streams.proofs.documents.write_yes.Goals as goal

pub returns : goal.returns
returns g c =
    (same _ _ _ _ _ _ _ _ (headed c.args.start c.first_line.result.now _ _ c.first_line.ensures
    (yes_text c.args.start c.args.instance.now c.args.places.now))
    (more _ _ _ _ _ _ _ _ _ _ _ c.write_on-named.ensures.goes_on
    (more _ _ _ _ _ _ _ _ _ _ _ c.write_instance_on-shown.ensures
    (more _ _ _ _ _ _ _ _ _ _ _ c.write_on-said.ensures.goes_on
    (more _ _ _ _ _ _ _ _ _ _ _ c.write_places-placed.ensures c.write_on.ensures.goes_on))))).goes
