use Rattle.proof_tree.proofs.writing.write_token_on.Goals as goal

pub returns-in-Scales : goal.returns-in-Scales
returns-in-Scales g c = rw c.in-Scales.is (rw c.as_slice.ensures at c.write_tuple.ensures)

pub returns-in-GlobalScales : goal.returns-in-GlobalScales
returns-in-GlobalScales g c = rw c.in-GlobalScales.is
    (rw c.as_slice-in-GlobalScales.ensures at c.write_tuple-in-GlobalScales.ensures)
