use Rattle.pack_streams.proofs.Writers.{more}
use Rattle.answer_streams.proofs.verdict.write_paired.Goals as goal

pub returns : goal.returns
returns g c = more _ _ _ _ _ _ _ _ _ _ _ c.write_on-named.ensures.goes_on
    (more _ _ _ _ _ _ _ _ _ _ _ c.write_number-numbered.ensures.goes_on c.write_numbered.ensures)
