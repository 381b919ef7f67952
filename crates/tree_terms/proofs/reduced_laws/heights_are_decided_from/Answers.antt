use Rattle.tree_terms.proofs.Heights.{none_decides, facts_decide}
use Rattle.tree_terms.proofs.reduced_laws.heights_are_decided_from.Goals as goal

pub returns-clause-none : goal.returns-clause-none
returns-clause-none c = none_decides

pub returns-clause-facts : goal.returns-clause-facts
returns-clause-facts c = facts_decide
