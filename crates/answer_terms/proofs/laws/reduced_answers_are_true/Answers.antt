use Rattle.answer_terms.proofs.Reduced.{reduced_true}
use Rattle.answer_terms.proofs.laws.reduced_answers_are_true.Goals as goal

pub returns : goal.returns
returns c = reduced_true
