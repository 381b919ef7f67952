use Rattle.answer_terms.proofs.Undecided.{undecided_refused}
use Rattle.answer_terms.proofs.own_laws.undecided_is_refused.Goals as goal

pub returns : goal.returns
returns c = undecided_refused
