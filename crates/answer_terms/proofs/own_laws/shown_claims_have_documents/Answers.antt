use Rattle.answer_terms.proofs.OwnAccepted.{shown_documents}
use Rattle.answer_terms.proofs.own_laws.shown_claims_have_documents.Goals as goal

pub returns : goal.returns
returns c = shown_documents
