use Rattle.pack_streams.proofs.Writers.{more, same}
use Rattle.answer_terms.specs.Answers.{take_lines}
use Rattle.answer_streams.proofs.ResultTexts.{certificates}
use Rattle.answer_streams.proofs.knapsack_documents.write_certificates.Goals as goal

pub returns : goal.returns
returns g c = same _ _ _ _ _ _ _ _
    (certificates (take_lines c.args.instance.now c.args.numbers.now) c.args.tokens.now)
    (more _ _ _ _ _ _ _ _ _ _ _ c.write_taken-taken.ensures c.write_proof.ensures)
