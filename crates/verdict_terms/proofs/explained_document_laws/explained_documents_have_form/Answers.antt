use Rattle.verdict_terms.proofs.ExplainedDocumentFormTold.{documents_have_form}
use Rattle.verdict_terms.proofs.explained_document_laws.explained_documents_have_form.Goals as goal

pub returns : goal.returns
returns c = documents_have_form
