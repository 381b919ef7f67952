use Rattle.verdict_terms.proofs.FedGiven.{documents_are_fed}
use Rattle.verdict_terms.proofs.laws.documents_are_fed.Goals as goal

pub returns : goal.returns
returns c = documents_are_fed
