use Rattle.verdict_terms.proofs.Verified.{verified_fronts_are_true}
use Rattle.verdict_terms.proofs.front_document_laws.verified_fronts_are_true.Goals as goal

pub returns : goal.returns
returns c = verified_fronts_are_true
