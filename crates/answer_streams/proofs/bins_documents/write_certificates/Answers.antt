use Rattle.pack_streams.proofs.Writers.{more, same}
use Rattle.answer_terms.specs.Answers.{bin_lines}
use Rattle.answer_streams.proofs.ResultTexts.{certificates}
use Rattle.answer_streams.proofs.bins_documents.write_certificates.Goals as goal

pub returns : goal.returns
returns g c = same _ _ _ _ _ _ _ _
    (certificates (bin_lines c.args.instance.now c.args.numbers.now) c.args.tokens.now)
    (more _ _ _ _ _ _ _ _ _ _ _ (rw (c.len.ensures.value, c.dims-dims.ensures.value)
    at c.write_all_numbered-placed.ensures) c.write_proof.ensures)
