use Rattle.pack_streams.proofs.Writers.{more}
use Rattle.proof_tree.proofs.writing.write_tuple.Goals as goal

pub returns : goal.returns
returns g c = more _ _ _ _ _ _ _ _ _ _ _
    (more _ _ _ _ _ _ _ _ _ _ _ c.write_on-named.ensures.goes_on c.write_functions-said.ensures)
    c.write_on.ensures.goes_on
