use Rattle.verdict_terms.proofs.FormGiven.{documents_have_form}
use Rattle.verdict_terms.proofs.laws.documents_have_form.Goals as goal

pub returns : goal.returns
returns c = documents_have_form
