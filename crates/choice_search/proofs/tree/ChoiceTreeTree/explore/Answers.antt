use Rattle.std.proofs.lemmas.Result.{IfOk-weaker}
use Rattle.tree_terms.proofs.UnderBudget.{outcome_there}
use Rattle.work_share.specs.Outcomes.{plain_outcome}
use Rattle.choice_search.specs.Choices.{PlainChoiceTree, shape}
use Rattle.choice_search.proofs.Rights.{right_at, decides_at, told_at}
use Rattle.choice_search.proofs.tree.ChoiceTreeTree.explore.Goals as goal

pub returns-clause-outcome : goal.returns-clause-outcome
returns-clause-outcome c =
    let e = c.self.view_is in
    let t : PlainChoiceTree = record {
      instance = c.self.inside.instance.now;
      goal = c.self.inside.value;
      scales = c.self.inside.scales;
    } in
    rw (← e) (IfOk-weaker c.explore_node.result _ _
    (λ r h. outcome_there (shape t) c.args.path.now c.args.cap (plain_outcome r) h)
    (rw (← e) at c.explore_node.ensures))

pub returns-clause-right : goal.returns-clause-right
returns-clause-right c =
    let e = c.self.view_is in
    let t : PlainChoiceTree = record {
      instance = c.self.inside.instance.now;
      goal = c.self.inside.value;
      scales = c.self.inside.scales;
    } in
    rw (← e) (IfOk-weaker c.explore_node.result _ _
    (λ r h. right_at t c.len-limits.ensures.limits c.args.path.now c.args.cap (plain_outcome r)
    (rw (← e) at c.requires.there) h)
    (rw (← e) at c.explore_node.ensures))

pub returns-clause-decides : goal.returns-clause-decides
returns-clause-decides c =
    let e = c.self.view_is in
    let t : PlainChoiceTree = record {
      instance = c.self.inside.instance.now;
      goal = c.self.inside.value;
      scales = c.self.inside.scales;
    } in
    rw (← e) (λ p. IfOk-weaker c.explore_node.result _ _
    (λ r h. decides_at t c.len-limits.ensures.limits c.args.path.now c.args.cap (plain_outcome r) h p)
    (rw (← e) at c.explore_node.ensures))

pub returns-clause-enough : goal.returns-clause-enough
returns-clause-enough c =
    let e = c.self.view_is in
    let t : PlainChoiceTree = record {
      instance = c.self.inside.instance.now;
      goal = c.self.inside.value;
      scales = c.self.inside.scales;
    } in
    rw (← e) (λ p l. IfOk-weaker c.explore_node.result _ _
    (λ r h. told_at t c.len-limits.ensures.limits c.args.path.now c.args.cap (plain_outcome r) h p l)
    (rw (← e) at c.explore_node.ensures))
