use Rattle.std.proofs.Common.{◌≡◌, [], subst, IfOk}
use Rattle.std.proofs.lemmas.Result.{IfOk-weaker}
use Rattle.tree_terms.specs.Trees.{outcome, under_budget}
use Rattle.work_share.specs.Outcomes.{plain_outcome}
use Rattle.class_search.specs.Tree.{PlainClassTree, shape}
use Rattle.class_search.proofs.Rights.{class_right, class_decides, class_told}
use Rattle.class_search.proofs.decision.decide.Goals as goal

pub returns-clause-outcome : goal.returns-clause-outcome
returns-clause-outcome g c =
    subst (λ (t : PlainClassTree). IfOk c.solve.result
    (λ r. plain_outcome r ≡ under_budget c.args.settings.now.budget (outcome (shape t))))
    c.in_ok-tree.ensures c.solve.ensures

pub returns-clause-right : goal.returns-clause-right
returns-clause-right g c =
    IfOk-weaker c.solve.result _ _
    (λ r h. class_right c.args.instance.now c.len-limits.ensures.limits c.args.settings.now.scales
    c.args.settings.now.budget (plain_outcome r) h)
    (returns-clause-outcome g c)

pub returns-clause-decides : goal.returns-clause-decides
returns-clause-decides g c =
    IfOk-weaker c.solve.result _ _
    (λ r h. class_decides c.args.instance.now c.len-limits.ensures.limits c.args.settings.now.scales
    c.args.settings.now.budget (plain_outcome r) h)
    (returns-clause-outcome g c)

pub returns-clause-enough : goal.returns-clause-enough
returns-clause-enough g c l =
    IfOk-weaker c.solve.result _ _
    (λ r h. class_told c.args.instance.now c.len-limits.ensures.limits [] c.args.settings.now.scales
    c.args.settings.now.budget (plain_outcome r) h l)
    (returns-clause-outcome g c)
