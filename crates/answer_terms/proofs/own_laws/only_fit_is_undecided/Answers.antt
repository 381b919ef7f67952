use Rattle.answer_terms.proofs.Undecided.{only_fit}
use Rattle.answer_terms.proofs.own_laws.only_fit_is_undecided.Goals as goal

pub returns : goal.returns
returns c = only_fit
