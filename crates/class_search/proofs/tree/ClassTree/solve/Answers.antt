use Rattle.std.proofs.Common.{◌≡◌, IfOk, subst}
use Rattle.tree_terms.specs.Trees.{outcome, under_budget}
use Rattle.work_share.specs.Outcomes.{plain_outcome}
use Rattle.class_search.specs.Tree.{PlainClassTree, shape}
use Rattle.class_search.proofs.tree.ClassTree.solve.Goals as goal

pub returns : goal.returns
returns g c =
    subst (λ (t : PlainClassTree). IfOk c.solve_shared-2.result
    (λ r. plain_outcome r ≡ under_budget c.args.settings.now.budget (outcome (shape t)))) c.new-keeping.ensures
    c.solve_shared-2.ensures
