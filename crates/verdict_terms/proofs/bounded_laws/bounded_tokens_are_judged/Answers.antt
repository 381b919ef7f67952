use Rattle.verdict_terms.proofs.BoundedJudged.{bounded_exact, bounded_refutes, plain_after}
use Rattle.verdict_terms.proofs.bounded_laws.bounded_tokens_are_judged.Goals as goal

pub returns-clause-judged : goal.returns-clause-judged
returns-clause-judged c = bounded_exact

pub returns-clause-refuting : goal.returns-clause-refuting
returns-clause-refuting c = bounded_refutes

pub returns-clause-plain : goal.returns-clause-plain
returns-clause-plain c = plain_after
