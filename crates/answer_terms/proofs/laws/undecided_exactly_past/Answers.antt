use Rattle.answer_terms.proofs.True.{undecided_past}
use Rattle.answer_terms.proofs.laws.undecided_exactly_past.Goals as goal

pub returns : goal.returns
returns c = undecided_past
