use Rattle.document_audits.proofs.Telling.{kinds_stay, telling_stays}
use Rattle.document_audits.proofs.opening_laws.kinds_stay.Goals as goal

pub returns : goal.returns
returns c = record { kind = kinds_stay; telling = telling_stays }
