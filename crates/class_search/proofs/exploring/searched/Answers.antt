use Rattle.std.proofs.Common.{[], Some}
use Rattle.std.proofs.lemmas.Result.{IfOk-weaker}
use Rattle.tree_terms.specs.ClassTree.{class_tree}
use Rattle.work_share.specs.Outcomes.{plain_outcome}
use Rattle.class_search.proofs.Arrivals.{arrival_told}
use Rattle.class_search.proofs.exploring.searched.Goals as goal

pub returns-clause-outcome : goal.returns-clause-outcome
returns-clause-outcome c =
    let instance = c.args.search.now.instance.now in
    let root = rw c.requires.full at c.visit_class_root-arrival.ensures.root in
    IfOk-weaker c.explored.result _ _
    (λ r h. arrival_told instance (Some (class_tree instance [] c.args.scales))
    c.visit_class_root-arrival.new.state.trail c.visit_class_root-arrival.result c.args.budget (plain_outcome r) root h)
    c.explored.ensures.outcome
