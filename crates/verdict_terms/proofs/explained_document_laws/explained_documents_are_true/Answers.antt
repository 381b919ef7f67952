use Rattle.verdict_terms.proofs.Shown.{documents_are_true}
use Rattle.verdict_terms.proofs.explained_document_laws.explained_documents_are_true.Goals as goal

pub returns : goal.returns
returns c = documents_are_true
