use Rattle.answer_terms.proofs.True.{answers_true}
use Rattle.answer_terms.proofs.laws.answers_are_true.Goals as goal

pub returns : goal.returns
returns c = answers_true
