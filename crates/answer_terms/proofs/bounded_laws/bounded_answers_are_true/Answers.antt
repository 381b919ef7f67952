use Rattle.answer_terms.proofs.BoundedOwn.{bounded_answers_true, bounded_claims_told}
use Rattle.answer_terms.proofs.bounded_laws.bounded_answers_are_true.Goals as goal

pub returns-clause-values : goal.returns-clause-values
returns-clause-values c = bounded_answers_true

pub returns-clause-claims : goal.returns-clause-claims
returns-clause-claims c = bounded_claims_told
