use Rattle.std.proofs.Common.{◌≡◌, sym, subst, Option, IfSome}
use Rattle.std.proofs.lemmas.Result.{IfOk-weaker}
use Rattle.tree_terms.specs.Trees.{SearchTree, outcome, under_budget}
use Rattle.work_share.specs.Outcomes.{plain_outcome}
use Rattle.bin_search.proofs.tree.BinTree.explore_child.Goals as goal

pub returns : goal.returns
returns c =
    let e = c.self.view_is in
    let h = rw (← e) at c.in_ok-step.ensures in
    let s = rw (← e) at c.requires.search in
    let q = rw s at c.explore_step.ensures in
    rw (← e) (IfOk-weaker c.explore_step.result _ _
    (λ r g. subst (λ (x : Option SearchTree). IfSome x (λ node. plain_outcome r ≡ under_budget c.args.cap (outcome node)))
    (sym h.is) g) q)
