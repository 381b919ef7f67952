use Rattle.std.proofs.Common.{◌≡◌, subst, IfOk}
use Rattle.tree_terms.specs.Trees.{outcome, under_budget}
use Rattle.work_share.specs.Outcomes.{plain_outcome}
use Rattle.class_search.specs.Tree.{PlainClassTree, shape}
use Rattle.strip_solver.proofs.heights.decide_tall.Goals as goal

pub returns-in_ok-tree-in-None-clause-outcome : goal.returns-in_ok-tree-in-None-clause-outcome
returns-in_ok-tree-in-None-clause-outcome g c =
    subst (λ (t : PlainClassTree). IfOk c.solve.result
    (λ r. plain_outcome r ≡ under_budget c.args.settings.now.budget (outcome (shape t)))) c.in_ok-tree-in-None.ensures
    c.solve.ensures
