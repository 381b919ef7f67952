use Rattle.verdict_terms.proofs.True.{documents_are_true}
use Rattle.verdict_terms.proofs.laws.documents_are_true.Goals as goal

pub returns : goal.returns
returns c = documents_are_true
