use Rattle.verdict_terms.proofs.Told.{documents_are_fed, kinds_are_told}
use Rattle.verdict_terms.proofs.explained_document_laws.explained_documents_are_fed.Goals as goal

pub returns-clause-verdict : goal.returns-clause-verdict
returns-clause-verdict c = documents_are_fed

pub returns-clause-kind : goal.returns-clause-kind
returns-clause-kind c = kinds_are_told
