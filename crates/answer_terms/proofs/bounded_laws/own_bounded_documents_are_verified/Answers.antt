use Rattle.answer_terms.proofs.BoundedOwn.{own_bounded_verified}
use Rattle.answer_terms.proofs.bounded_laws.own_bounded_documents_are_verified.Goals as goal

pub returns : goal.returns
returns c = own_bounded_verified
