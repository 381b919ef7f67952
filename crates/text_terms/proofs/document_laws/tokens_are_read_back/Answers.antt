use Rattle.text_terms.proofs.TokensBack.{tokens_are_read_back}
use Rattle.text_terms.proofs.document_laws.tokens_are_read_back.Goals as goal

pub returns : goal.returns
returns c = tokens_are_read_back
