use Rattle.verdict_terms.proofs.FrontDocumentTold.{fronts_are_fed}
use Rattle.verdict_terms.proofs.front_document_laws.fronts_are_fed.Goals as goal

pub returns : goal.returns
returns c = fronts_are_fed
