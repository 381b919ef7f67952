use Rattle.text_terms.proofs.Cuts.{token_lines_are_told}
use Rattle.text_terms.proofs.document_laws.token_lines_are_told.Goals as goal

pub returns : goal.returns
returns c = token_lines_are_told
