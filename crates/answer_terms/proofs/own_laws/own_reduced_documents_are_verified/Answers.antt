use Rattle.answer_terms.proofs.OwnReduced.{own_reduced}
use Rattle.answer_terms.proofs.own_laws.own_reduced_documents_are_verified.Goals as goal

pub returns : goal.returns
returns c = own_reduced
