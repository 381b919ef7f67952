use Rattle.pack_streams.proofs.Writers.{more, same}
use Rattle.answer_terms.specs.Answers.{place_lines}
use Rattle.answer_streams.proofs.ResultTexts.{certificates}
use Rattle.answer_streams.proofs.strip_documents.write_certificates.Goals as goal

pub returns : goal.returns
returns g c = same _ _ _ _ _ _ _ _
    (certificates (place_lines c.args.instance.now c.args.places.now) c.args.tokens.now)
    (more _ _ _ _ _ _ _ _ _ _ _ c.write_places-placed.ensures c.write_proof.ensures)
