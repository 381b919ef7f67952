use Rattle.document_audits.proofs.Telling.{one_way}
use Rattle.document_audits.proofs.opening_laws.documents_are_read_one_way.Goals as goal

pub returns : goal.returns
returns c = one_way
