use Rattle.std.proofs.Common.{◌≡◌, Some, IfSome, subst}
use Rattle.tree_terms.specs.Trees.{node_at, under_budget}
use Rattle.tree_terms.specs.Paths.{outcome_at}
use Rattle.work_share.specs.Outcomes.{plain_outcome}
use Rattle.class_search.specs.Kept.{IsWalkOf}
use Rattle.class_search.specs.Tree.{PlainClassTree, shape}
use Rattle.class_search.proofs.Pieces.{explored_left, explored_told}
use Rattle.class_search.proofs.keeping.ResumableTreeTree.explore.Goals as goal

pub keep-requires-clause-known : goal.keep-requires-clause-known
keep-requires-clause-known c =
    subst (λ (t : PlainClassTree). IfSome (node_at (Some (shape t)) c.args.path.now)
    (λ node. IfSome c.in_ok-outcome.field-0.left (IsWalkOf t.instance node))) c.self.view_is
    (explored_left c.self.inside.tree.now.instance (node_at (Some (shape c.self.inside.tree.now)) c.args.path.now)
    c.args.cap c.in_ok-outcome.field-0 c.in_ok-outcome.ensures)

pub returns : goal.returns
returns c =
    subst (λ (t : PlainClassTree). IfSome (outcome_at (shape t) c.args.path.now)
    (λ v. plain_outcome c.in_ok-outcome.field-0.outcome ≡ under_budget c.args.cap v)) c.self.view_is
    (explored_told c.self.inside.tree.now.instance (node_at (Some (shape c.self.inside.tree.now)) c.args.path.now)
    c.args.cap c.in_ok-outcome.field-0
    (plain_outcome c.in_ok-outcome.field-0.outcome) (λ tree h. h.told_so) c.in_ok-outcome.ensures)
