use Rattle.answer_terms.proofs.Undecided.{only_reduced_fit}
use Rattle.answer_terms.proofs.own_laws.only_reduced_fit_is_undecided.Goals as goal

pub returns : goal.returns
returns c = only_reduced_fit
