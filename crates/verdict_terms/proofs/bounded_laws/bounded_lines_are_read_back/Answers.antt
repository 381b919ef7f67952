use Rattle.verdict_terms.proofs.BoundedBack.{bounded_tokens_are_read_back, bounded_lines_are_told}
use Rattle.verdict_terms.proofs.bounded_laws.bounded_lines_are_read_back.Goals as goal

pub returns-clause-words : goal.returns-clause-words
returns-clause-words c = bounded_tokens_are_read_back

pub returns-clause-told : goal.returns-clause-told
returns-clause-told c = bounded_lines_are_told
