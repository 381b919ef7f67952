use Rattle.pack_streams.proofs.Writers.{more}
use Rattle.answer_streams.proofs.results.write_proof.Goals as goal

pub returns : goal.returns
returns g c = more _ _ _ _ _ _ _ _ _ _ _ c.write_on-split.ensures.goes_on c.write_tokens_on.ensures
