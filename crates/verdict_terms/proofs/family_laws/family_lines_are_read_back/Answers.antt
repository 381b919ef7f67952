use Rattle.verdict_terms.proofs.FamilyBack.{family_tokens_are_read_back, family_lines_are_told}
use Rattle.verdict_terms.proofs.family_laws.family_lines_are_read_back.Goals as goal

pub returns-clause-words : goal.returns-clause-words
returns-clause-words c = family_tokens_are_read_back

pub returns-clause-told : goal.returns-clause-told
returns-clause-told c = family_lines_are_told
