use Rattle.answer_terms.proofs.OwnAccepted.{own_verified}
use Rattle.answer_terms.proofs.own_laws.own_documents_are_verified.Goals as goal

pub returns : goal.returns
returns c = own_verified
