use Rattle.pack_streams.proofs.Writers.{more}
use Rattle.answer_streams.proofs.results.write_none_line.Goals as goal

pub returns : goal.returns
returns g c = more _ _ _ _ _ _ _ _ _ _ _ c.write_on-said.ensures.goes_on c.write_token_on.ensures
