use Rattle.std.proofs.Common.{Some, IfSome, IsSome, Option, sym, subst}
use Rattle.tree_terms.specs.Trees.{node_at}
use Rattle.tree_terms.specs.Paths.{node_view}
use Rattle.work_share.specs.Nodes.{plain_node}
use Rattle.class_search.specs.declared.kept.Division.{Division}
use Rattle.class_search.specs.Kept.{IsWalkOf, IsDivisionOf, standing_tree}
use Rattle.class_search.specs.Tree.{PlainClassTree, shape}
use Rattle.class_search.proofs.Pieces.{left_stands, left_parts, left_node}
use Rattle.class_search.proofs.keeping.ResumableTree.keep.Goals as goal

pub division-requires : goal.division-requires
division-requires c = left_stands c.args.self.now.instance (node_at (Some (shape c.args.self.now)) c.args.path.now)
    c.args.left c.in-Some.standing c.in-Some.is c.requires.there c.requires.known

pub pieces_of-requires-clause-known : goal.pieces_of-requires-clause-known
pieces_of-requires-clause-known c =
    let d = subst (λ (o : Option Division). IfSome o
    (IsDivisionOf c.in-Some.standing.instance.now (standing_tree c.in-Some.standing))) c.in-Some-2.is
    c.in_ok-node.ensures in
    left_parts c.self.inside.tree.now.instance (node_at (Some (shape c.self.inside.tree.now)) c.args.path.now)
    c.args.left c.in-Some.standing c.in-Some-2.field-0.parts c.in-Some.is d.parts
    (subst (λ (t : PlainClassTree). IfSome (node_at (Some (shape t)) c.args.path.now)
    (λ node. IfSome c.args.left (IsWalkOf t.instance node))) (sym c.self.view_is) c.requires.known)

pub pieces_of-requires-clause-there : goal.pieces_of-requires-clause-there
pieces_of-requires-clause-there c =
    subst (λ (t : PlainClassTree). IsSome (node_at (Some (shape t)) c.args.path.now)) (sym c.self.view_is)
    c.requires.there

pub of_node-requires : goal.of_node-requires
of_node-requires c =
    let d = subst (λ (o : Option Division). IfSome o
    (IsDivisionOf c.in-Some.standing.instance.now (standing_tree c.in-Some.standing))) c.in-Some-2.is
    c.in_ok-node.ensures in
    record {
      is = left_node node_view c.self.inside.tree.now.instance
          (node_at (Some (shape c.self.inside.tree.now)) c.args.path.now) c.args.left c.in-Some.standing
          (plain_node c.in-Some-2.field-0.node) c.in-Some.is d.node
          (subst (λ (t : PlainClassTree). IfSome (node_at (Some (shape t)) c.args.path.now)
          (λ node. IfSome c.args.left (IsWalkOf t.instance node))) (sym c.self.view_is) c.requires.known);
    }
