use Rattle.pack_streams.proofs.Writers.{more, same}
use Rattle.answer_streams.proofs.FrontDocumentTexts.{front_pieces}
use Rattle.answer_streams.proofs.front_document.write_front.Goals as goal

pub returns : goal.returns
returns g c =
    (same _ _ _ _ _ _ _ _ (front_pieces c.args.instance.now c.args.front.now)
    (more _ _ _ _ _ _ _ _ _ _ _ c.write_on-named.ensures.goes_on
    (more _ _ _ _ _ _ _ _ _ _ _ c.write_instance_on-shown.ensures
    (more _ _ _ _ _ _ _ _ _ _ _ c.write_result-said.ensures
    (more _ _ _ _ _ _ _ _ _ _ _ c.write_front_lines-listed.ensures c.write_on.ensures.goes_on))))).goes
