use Rattle.answer_terms.proofs.Reduced.{reduced_past}
use Rattle.answer_terms.proofs.laws.reduced_undecided_exactly_past.Goals as goal

pub returns : goal.returns
returns c = reduced_past
