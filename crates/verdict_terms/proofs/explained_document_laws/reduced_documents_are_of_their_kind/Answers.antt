use Rattle.verdict_terms.proofs.KindOf.{reduced_documents, bounded_documents}
use Rattle.verdict_terms.proofs.explained_document_laws.reduced_documents_are_of_their_kind.Goals as goal

pub returns : goal.returns
returns c = record { reduced = reduced_documents; bounded = bounded_documents }
