use Rattle.std.proofs.lemmas.Result.{IfOk-weaker}
use Rattle.work_share.specs.Outcomes.{plain_outcome}
use Rattle.class_search.specs.Tree.{PlainClassTree}
use Rattle.class_search.proofs.Rights.{right_at, decides_at, told_at}
use Rattle.class_search.proofs.tree.ClassTreeTree.explore.Goals as goal

pub returns-clause-right : goal.returns-clause-right
returns-clause-right c =
    let e = c.self.view_is in
    let t : PlainClassTree = record {
      instance = c.self.inside.instance.now;
      start = c.self.inside.start.items;
      scales = c.self.inside.scales;
    } in
    rw (← e) (IfOk-weaker c.explore_node.result _ _
    (λ r h. right_at t c.len-limits.ensures.limits c.self.invariant.start c.args.path.now c.args.cap
    (plain_outcome r) (rw (← e) at c.requires.there) h)
    (rw (← e) at c.explore_node.ensures))

pub returns-clause-decides : goal.returns-clause-decides
returns-clause-decides c =
    let e = c.self.view_is in
    let t : PlainClassTree = record {
      instance = c.self.inside.instance.now;
      start = c.self.inside.start.items;
      scales = c.self.inside.scales;
    } in
    rw (← e) (λ p s. IfOk-weaker c.explore_node.result _ _
    (λ r h. decides_at t c.len-limits.ensures.limits c.args.path.now c.args.cap (plain_outcome r) h p s)
    (rw (← e) at c.explore_node.ensures))

pub returns-clause-enough : goal.returns-clause-enough
returns-clause-enough c =
    let e = c.self.view_is in
    let t : PlainClassTree = record {
      instance = c.self.inside.instance.now;
      start = c.self.inside.start.items;
      scales = c.self.inside.scales;
    } in
    rw (← e) (λ p l. IfOk-weaker c.explore_node.result _ _
    (λ r h. told_at t c.len-limits.ensures.limits c.args.path.now c.args.cap (plain_outcome r) h p l)
    (rw (← e) at c.explore_node.ensures))
