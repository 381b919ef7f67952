use Rattle.pack_streams.proofs.Writers.{more}
use Rattle.proof_tree.proofs.writing.write_function.Goals as goal

pub returns-in-Step : goal.returns-in-Step
returns-in-Step g c = rw c.in-Step.is (more _ _ _ _ _ _ _ _ _ _ _ c.write_on-named.ensures.goes_on c.write_numbers.ensures)

pub returns-in-Cut : goal.returns-in-Cut
returns-in-Cut g c = rw c.in-Cut.is
    (more _ _ _ _ _ _ _ _ _ _ _ c.write_on-named-in-Cut.ensures.goes_on c.write_numbers-in-Cut.ensures)

pub returns-in-Count : goal.returns-in-Count
returns-in-Count g c = rw c.in-Count.is
    (more _ _ _ _ _ _ _ _ _ _ _ c.write_on-named-in-Count.ensures.goes_on c.write_numbers-in-Count.ensures)
