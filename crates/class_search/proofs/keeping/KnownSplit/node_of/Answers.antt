use Rattle.std.proofs.Common.{◌≡◌, ◌∙◌, ap, subst, ℕ, List}
use Rattle.class_search.specs.Pieces.{PlainSplit, IsSplitAt}
use Rattle.class_search.specs.Tree.{PlainClassTree}
use Rattle.class_search.proofs.keeping.KnownSplit.node_of.Goals as goal

pub returns : goal.returns
returns c =
    let here = ap (λ (s : PlainSplit). s.path) c.self.view_is ∙ c.if-not-is_at.ensures in
    subst (λ (t : PlainClassTree). IsSplitAt t c.args.path.now c.self.inside.node) c.if-not-same.ensures
    (subst (λ (p : List ℕ). IsSplitAt c.self.inside.tree.now p c.self.inside.node) here c.self.invariant)
