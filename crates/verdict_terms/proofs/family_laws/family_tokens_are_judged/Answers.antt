use Rattle.verdict_terms.proofs.FamilyJudged.{family_exact, families_refute, plain_families_after}
use Rattle.verdict_terms.proofs.family_laws.family_tokens_are_judged.Goals as goal

pub returns-clause-judged : goal.returns-clause-judged
returns-clause-judged c = family_exact

pub returns-clause-refuting : goal.returns-clause-refuting
returns-clause-refuting c = families_refute

pub returns-clause-plain : goal.returns-clause-plain
returns-clause-plain c = plain_families_after
