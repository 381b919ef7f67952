use Rattle.pack_streams.proofs.Writers.{wrote_same, later, more}
use Rattle.answer_streams.proofs.StripTexts.{between_text}
use Rattle.answer_streams.proofs.strip_documents.write_between.Goals as goal

pub returns : goal.returns
returns g c = wrote_same _ _ _ _ _ _ _
    (between_text c.args.start c.strip_line.result.now c.strip_line.ensures c.args.instance.now c.args.refuted
    c.args.placed c.args.places.now c.args.tokens.now)
    (later _ _ _ _ _ _ _ _ _ _ c.write_opening-begun.ensures
    (more _ _ _ _ _ _ _ _ _ _ _ c.write_between_line-said.ensures
    (more _ _ _ _ _ _ _ _ _ _ _ c.write_certificates-shown.ensures c.write_on.ensures.goes_on)))
