use Rattle.answer_terms.proofs.Undecided.{reduced_undecided_refused}
use Rattle.answer_terms.proofs.own_laws.reduced_undecided_is_refused.Goals as goal

pub returns : goal.returns
returns c = reduced_undecided_refused
