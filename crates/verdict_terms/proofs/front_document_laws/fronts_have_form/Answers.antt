use Rattle.verdict_terms.proofs.FrontDocumentFormTold.{fronts_have_form}
use Rattle.verdict_terms.proofs.front_document_laws.fronts_have_form.Goals as goal

pub returns : goal.returns
returns c = fronts_have_form
