use Rattle.std.proofs.Common.{◌≡◌, sym, subst, Option, IfSome}
use Rattle.std.proofs.lemmas.Result.{IfOk-weaker}
use Rattle.tree_terms.specs.Trees.{SearchTree}
use Rattle.tree_terms.specs.Paths.{node_view}
use Rattle.work_share.specs.Nodes.{plain_node}
use Rattle.bin_search.proofs.tree.BinTree.tell_child.Goals as goal

pub returns : goal.returns
returns c =
    let e = c.self.view_is in
    let h = rw (← e) at c.in_ok-step.ensures in
    let s = rw (← e) at c.requires.search in
    let q = rw s at c.tell_step.ensures in
    rw (← e) (IfOk-weaker c.tell_step.result _ _
    (λ r g. subst (λ (x : Option SearchTree). IfSome x (λ node. plain_node r ≡ node_view node)) (sym h.is) g) q)
