use Rattle.tree_terms.proofs.laws.outcomes_under_a_budget.Goals as goal
use Rattle.tree_terms.proofs.UnderBudget.{over_budget, within_budget}

pub returns-clause-past : goal.returns-clause-past
returns-clause-past c = over_budget

pub returns-clause-decided : goal.returns-clause-decided
returns-clause-decided c = within_budget
