use Rattle.std.proofs.Common.{◌≡◌, Some, IfOk, IfSome, sym, subst}
use Rattle.tree_terms.specs.Trees.{node_at}
use Rattle.tree_terms.specs.Paths.{node_view, IsReachable}
use Rattle.work_share.specs.Nodes.{plain_node}
use Rattle.class_search.specs.Tree.{PlainClassTree, shape}
use Rattle.class_search.proofs.keeping.ResumableTreeTree.node.Goals as goal

pub node-requires : goal.node-requires
node-requires c = subst (λ (t : PlainClassTree). IsReachable (shape t) c.args.path.now) (sym c.self.view_is) c.requires

pub returns : goal.returns
returns c =
    subst (λ (t : PlainClassTree). IfOk c.node.result
    (λ r. IfSome (node_at (Some (shape t)) c.args.path.now) (λ node. plain_node r ≡ node_view node))) c.self.view_is
    c.node.ensures

pub returns-in-Some-node_of : goal.returns-in-Some-node_of
returns-in-Some-node_of c =
    subst (λ (t : PlainClassTree). IfSome (node_at (Some (shape t)) c.args.path.now)
    (λ node. plain_node c.in-Some-node_of.node ≡ node_view node)) c.self.view_is c.in-Some-node_of.ensures.is
