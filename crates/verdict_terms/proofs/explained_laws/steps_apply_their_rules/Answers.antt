use Rattle.verdict_terms.proofs.explained_laws.steps_apply_their_rules.Goals as goal
use Rattle.verdict_terms.proofs.Leaves.{concluded, not_left, applied}

pub returns-clause-leaves : goal.returns-clause-leaves
returns-clause-leaves c X rule r = (concluded X rule r, not_left X rule r)

pub returns-clause-applied : goal.returns-clause-applied
returns-clause-applied c = applied
