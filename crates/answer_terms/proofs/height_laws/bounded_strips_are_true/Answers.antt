use Rattle.answer_terms.proofs.HeightTrue.{bounded_strips_true, bounded_heights_told}
use Rattle.answer_terms.proofs.height_laws.bounded_strips_are_true.Goals as goal

pub returns-clause-heights : goal.returns-clause-heights
returns-clause-heights c = bounded_strips_true

pub returns-clause-claims : goal.returns-clause-claims
returns-clause-claims c = bounded_heights_told
