use Rattle.answer_terms.proofs.Reduced.{reduced_shown}
use Rattle.answer_terms.proofs.laws.reduced_answers_are_shown.Goals as goal

pub returns : goal.returns
returns c = reduced_shown
