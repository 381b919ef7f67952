use Rattle.pack_streams.proofs.Writers.{more}
use Rattle.bounded_tokens.proofs.family_writing.write_family.Goals as goal

pub returns : goal.returns
returns g c = more _ _ _ _ _ _ _ _ _ _ _
    (more _ _ _ _ _ _ _ _ _ _ _
    (more _ _ _ _ _ _ _ _ _ _ _ c.write_on-named.ensures.goes_on c.write_numbers-begun.ensures)
    c.write_numbers-said.ensures)
    c.write_on.ensures.goes_on
